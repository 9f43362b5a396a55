-- Each finding has one mark.
use Rattle.entangled_picture.specs.declared.shape.Shape.TheVariants as shape
use Rattle.auditor.specs.Report.{AuditReport}
use Rattle.entangled_picture.proofs.Imports.{[], ap, arith, Bool, End, EntryFault, flat_map, flat_map-append}
use Rattle.entangled_picture.proofs.Imports.{get_or_from_slice_get, is_drawn, length, List, log_at, LogRead, map, None}
use Rattle.entangled_picture.proofs.Imports.{Option, option_to_list, Placed, placed_after, range_with_len, refl}
use Rattle.entangled_picture.proofs.Imports.{SealedEntry, Seen, seen_of, Shape, slice_get, Some, Spot, suc, take, true}
use Rattle.entangled_picture.proofs.Imports.{zip, ℕ, ◌++◌, ◌+◌, ◌∷◌, ◌≡◌, ◌≤◌}
use Rattle.entangled_picture.specs.LogMarks.{break_of, edge_of, ending_of, lanes_of, logs_of, refused_marks}
use Rattle.entangled_picture.specs.Marks.{arrows_of, bars_of, entry_in, entry_marks, forks_of, gap_of, gap_spot}
use Rattle.entangled_picture.specs.Marks.{gaps_of, lights_of, losses_of, strays_of}
use Rattle.entangled_picture.specs.OneMark.{break_found, EachHasOneMark, end_found, Finding, findings_of, found_in, gap}
use Rattle.entangled_picture.specs.OneMark.{refused, stands_for, stray, survivor}
use Rattle.entangled_picture.specs.Places.{most_arrows, most_drawn, most_losses, placed_of}
use Rattle.entangled_picture.specs.Shapes.{last_column, shapes_with}
use Rattle.entry_graph.specs.EntryGraph.{EntryGraph}
use Rattle.std.proofs.Common.{le-leb}
use Rattle.std.proofs.lemmas.List.{length-append, length-map, nil_from_length, take-append-drop, Concat.flat_map_single}
use Rattle.std.specs.Prelude.{nat_le}

-- what shapes stand for
record Stand (shapes : List Shape) (found : List Finding) : Type 0 where
  are : flat_map stands_for shapes ≡ found

-- some shapes and others
both : {a b : List Shape} {f g : List Finding} → Stand a f → Stand b g → Stand (a ++ b) (f ++ g)
both {a} {b} p q = record { are = rw (flat_map-append stands_for a b, p.are, q.are) }

-- the shapes of a list each
each : {A : Type 0} {g : A → List Shape} {h : A → List Finding} (xs : List A) → ((x : A) → Stand (g x) (h x)) →
    Stand (flat_map g xs) (flat_map h xs)
each [] p = record { are = refl }
each (x ∷ xs) p = both (p x) (each xs p)

-- shapes that stand for nothing
none : {A : Type 0} {g : A → List Shape} (xs : List A) → ((x : A) → Stand (g x) []) → Stand (flat_map g xs) []
none [] p = record { are = refl }
none (x ∷ xs) p = both (p x) (none xs p)

-- the first ones of these
first : (most : ℕ) (shapes : List Shape) → Stand shapes [] → Stand (take most shapes) []
first most shapes p =
    let parts = rw (← take-append-drop most shapes, flat_map-append stands_for) at p.are in
    record { are = nil_from_length _ (omega (arith, simp length-append at (ap length parts))) }

-- one shape of each
single : {A : Type 0} (g : A → Shape) {found : List Finding} (xs : List A) →
    Stand (flat_map (λ x. g x ∷ []) xs) found → Stand (map g xs) found
single g xs p = rw (flat_map_single g xs) at p

-- the shapes at the places of a list
at_items : {A : Type 0} (f : ℕ → List Shape) (h : A → List Finding) (a : ℕ) (xs : List A) →
    ((i j : ℕ) (x : A) → j ≡ a + i → slice_get xs i ≡ Some x → Stand (f j) (h x)) →
    Stand (flat_map f (range_with_len a (length xs))) (flat_map h xs)
at_items f h a [] p = record { are = refl }
at_items f h a (x ∷ xs) p =
    both (p 0 a x (omega arith) refl) (at_items f h (a + 1) xs (λ i j y at is. p (suc i) j y (omega arith) is))

-- the same, where each item is one finding
ones : {A : Type 0} {f : ℕ → List Shape} {h : A → Finding} (xs : List A) →
    ((i : ℕ) (x : A) → slice_get xs i ≡ Some x → Stand (f i) (h x ∷ [])) →
    Stand (flat_map f (range_with_len 0 (length xs))) (map h xs)
ones {f} {h} xs p =
    rw (← flat_map_single h xs) (at_items f (λ x. h x ∷ []) 0 xs (λ i j x at is.
    let same : i ≡ j = omega arith in rw same at (p i x is)))

-- what a survivor's mark stands for, if it has one
found : Placed → List Finding
found placed = flat_map stands_for (option_to_list (entry_in 0 placed.at placed.seen))

-- of survivors that are all drawn each is found
all_drawn : (drawn : ℕ → Bool) → ((i : ℕ) → drawn i ≡ true) → (kept : List SealedEntry) (before : List Seen)
    (column stamp a : ℕ) → flat_map found (placed_after before column stamp
    (zip (map seen_of kept) (map drawn (range_with_len a (length (map seen_of kept))))))
    ≡ map (λ (sealed : SealedEntry). survivor sealed.digest) kept
unfolding found
all_drawn drawn every [] before column stamp a = refl
all_drawn drawn every (x ∷ xs) before column stamp a =
    rw (every a) (ap (λ l. survivor x.digest ∷ l) (all_drawn drawn every xs _ _ _ _))

entries : (placed : List Placed) → Stand (entry_marks placed) (flat_map found placed)
unfolding found
entries placed = at_items _ _ 0 placed (λ i j x at is. record { are = grind arith })

-- a log
log_found : (logs : List LogRead) (machines column place : ℕ) (log : Option LogRead) →
    Stand (log_at logs machines column place log) (found_in place log)
log_found logs machines column place None = record { are = refl }
log_found logs machines column place (Some log) =
    let edge = edge_of (take place logs) machines column log in
    let records = log.refused in
    let marks : Stand (refused_marks records place edge) (map (λ (item : ℕ × EntryFault). refused place item.0) records)
    = ones records (λ i x is. record { are = grind arith }) in
    let break : Stand (option_to_list (break_of edge (length records) place log.broke)) (break_found place log.broke)
    = record { are = grind arith } in
    let end : Stand (option_to_list (ending_of edge (length records + 1) place log.end)) (end_found place log.end)
    = record { are = grind arith } in
    record { are = (both (both marks break) end).are }

-- a gap, with the arrows to it
gap_found : (graph : EntryGraph SealedEntry) (placed : List Placed) (lane level : ℕ) (digest : List ℕ) →
    Stand (gap_of graph placed lane level digest) (gap digest ∷ [])
gap_found graph placed lane level digest =
    let losses = losses_of graph placed digest (gap_spot graph placed lane level digest) in
    both (first most_losses losses (search (arith, none))) (record { are = refl })

strays_found : (strays : List (List ℕ)) (lane : ℕ) → Stand (strays_of strays lane) (map stray strays)
strays_found strays lane = search (arith, single, ones, get_or_from_slice_get)

-- all shapes, if each survivor has a mark
shapes_found : (report : AuditReport) (placed : List Placed) →
    Stand (entry_marks placed) (map (λ (sealed : SealedEntry). survivor sealed.digest) report.graph.survivors) →
    Stand (shapes_with report placed (length report.machines)) (findings_of report)
shapes_found report placed survivors =
    let graph = report.graph in
    let machines = length report.machines in
    let column = last_column placed in
    let gaps = take most_drawn graph.gaps in
    let strays = take most_drawn graph.strays in
    let lanes : Stand (lanes_of report.logs machines column) [] = search (arith, none, single) in
    let lights : Stand (lights_of placed report.verdicts) [] = search (arith, none) in
    let arrows = first most_arrows (arrows_of graph placed) (search (arith, none)) in
    let bars : Stand (bars_of placed) [] = search (arith, none) in
    let forks : Stand (forks_of placed (take most_drawn graph.forks)) [] = search (arith, none) in
    let gap_marks : Stand (gaps_of graph gaps placed (machines + 2)) (map gap gaps) =
    ones gaps (λ i x is. rw (get_or_from_slice_get gaps i x [] is) (gap_found graph placed (machines + 2) i x)) in
    let logs = each (range_with_len 0 (length report.logs)) (λ place.
    log_found report.logs machines column place (slice_get report.logs place)) in
    let below = both (both lights arrows) bars in
    let beside = both (both forks gap_marks) (strays_found strays (machines + 1)) in
    both (both lanes logs) (both (both below beside) survivors)

-- all of it
pub each_has_one_mark : EachHasOneMark
each_has_one_mark report few =
    let graph = report.graph in
    let seen = map seen_of graph.survivors in
    let few_seen : nat_le (length seen) most_drawn ≡ true =
    le-leb (length seen) most_drawn (omega (arith, length-map graph.survivors seen_of)) in
    let drawn = all_drawn (is_drawn graph report.verdicts seen) (λ place. rw few_seen) graph.survivors [] 0 0 0 in
    let placed = placed_of graph report.verdicts in
    (shapes_found report placed (rw drawn at (entries placed))).are
