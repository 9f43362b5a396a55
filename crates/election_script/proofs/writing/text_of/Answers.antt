-- The kinds one after the other.
use Rattle.election_script.proofs.Imports.{[], append-nil, deeds_from, ended, flat_map, flat_map-append, key_line}
use Rattle.election_script.proofs.Imports.{Kind, Lines, lines_of_kind, link_line, List, log_line, not, seed_line, ℕ}
use Rattle.election_script.proofs.Imports.{◌++◌, ◌==◌, ◌∷◌, ◌≡◌}
use Rattle.std.proofs.{Common.append_assoc, lemmas.List.Concat.flat_map-cons}
use Rattle.election_script.specs.declared.kinds.Kind.TheVariants as kind
use Rattle.election_script.proofs.writing.text_of.Goals as goal

joined : {X : Type 0} (f : X → List ℕ) (v m d o t p : List X) (s k l n : X) →
    ((((((((flat_map f v ++ f s) ++ f k) ++ f l) ++ f n) ++ flat_map f m) ++ flat_map f d) ++ flat_map f o)
    ++ flat_map f t) ++ flat_map f p ≡ flat_map f (v ++ s ∷ k ∷ l ∷ n ∷ (m ++ (d ++ (o ++ (t ++ (p ++ []))))))
joined f v m d o t p s k l n = simp (flat_map-append, flat_map-cons, append_assoc, append-nil)

pub returns : goal.returns
returns c =
    let script = c.args.script.now in
    let t : Kind → Lines = lines_of_kind (not (script.version == 1)) script (deeds_from 0 script.machines) in
    rw (c.in_ok-push_steps.ensures, c.in_ok-push_stops.ensures, c.in_ok-push_loses.ensures)
    (rw (c.in_ok-push_deeds.ensures, c.in_ok-push_machines.ensures, c.in_ok-push_number-2.ensures)
    (rw (c.in_ok-push_number.ensures, c.in_ok-push_key.ensures, c.in_ok-push_seed.ensures)
    (rw (c.in_ok-push_version.ensures, c.new-text.ensures.items, c.as_slice-machines.ensures, c.as_slice.ensures)
    (rw (c.as_slice-2.ensures, c.as_slice-3.ensures) (joined ended (t kind.Version) (t kind.Machine) (t kind.Do)
    (t kind.Lose) (t kind.Stop) (t kind.Step) (seed_line script) (key_line script) (log_line script)
    (link_line script))))))
