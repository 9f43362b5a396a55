use Rattle.report_page.proofs.entries.holders.Goals as goal
use Rattle.report_page.proofs.Imports.{[], ap, arith, Bool, flat_map, length, length-map, range_with_len, refl}
use Rattle.report_page.proofs.Imports.{slice_get, slice_get_read, string_bytes, sym, ℕ, ◌++◌, ◌∙◌, ◌≡◌}
use Rattle.report_page.proofs.{LogDigests.holder_at, Pieces.place_more}
use Rattle.report_page.specs.{Entries.holder, Entries.is_in_log, Entries.number_if, inside.Held.has}

pub loop-place-preserved : goal.loop-place-preserved
loop-place-preserved c =
    let logs = c.args.logs.now in
    let digest = c.args.digest.now in
    let place = c.loop-place.place in
    let now = string_bytes c.loop-place.text in
    place_more (λ place. holder digest place (slice_get logs place)) place [] now
    (string_bytes c.add_holder.new.text) c.loop-place.invariant
    (c.in_ok-add_holder.ensures
    ∙ ap (λ (b : Bool). now ++ number_if b place) c.has.ensures
    ∙ ap (λ l. now ++ l) (sym (holder_at digest place logs c.args.held.now _ (c.requires digest)
    (slice_get_read c.args.held.now _ place _ refl c.loop-place-test.true c.index-held-place.is))))

pub returns : goal.returns
returns c =
    let logs = c.args.logs.now in
    let held = c.args.held.now in
    let digest = c.args.digest.now in
    let at_end : c.loop-place.place ≡ length logs =
    omega (
      arith,
      c.loop-place-test.false,
      c.loop-place.auto.place-end,
      length-map held (λ one. has one digest),
      ap length (c.requires digest),
      length-map logs (is_in_log digest),
    ) in
    c.loop-place.invariant
    ∙ ap (λ (n : ℕ). flat_map (λ place. holder digest place (slice_get logs place)) (range_with_len 0 n)) at_end
