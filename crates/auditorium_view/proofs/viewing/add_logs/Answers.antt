use Rattle.std.proofs.Common.{◌≡◌, ◌∙◌, ◌++◌, ◌+◌, ◌∷◌, [], List, ℕ, ap, sym, map, string_bytes, get_or}
use Rattle.std.proofs.lemmas.List.{get_or-map}
use Rattle.report_page.proofs.Pieces.{item_more}
use Rattle.report_page.specs.declared.input.What.TheVariants as what
use Rattle.auditorium_view.specs.View.{known_digest, log_input}
use Rattle.auditorium_view.proofs.viewing.add_logs.Goals as goal

pub loop-place-preserved : goal.loop-place-preserved
loop-place-preserved c =
    let logs = c.args.logs.now in
    let place = c.loop-place.place in
    let named : string_bytes c.index-logs-place.result ≡ get_or (map string_bytes logs) place [] =
    ap string_bytes c.index-logs-place.is
    ∙ sym (get_or-map string_bytes logs place c.index-logs-place.result [] c.loop-place-test.true) in
    item_more (log_input c.args.digests.now c.args.before (map string_bytes logs)) place c.args.inputs.now
    c.loop-place.inputs c.add_log.new.inputs c.loop-place.invariant
    (c.in_ok-add_log.ensures
    ∙ ap (λ (name : List ℕ). c.loop-place.inputs ++ record {
      what = what.Log place;
      name = name;
      digest = known_digest c.args.digests.now (c.args.before + place);
    } ∷ [])
    (c.as_str.ensures.value ∙ named))
