use Rattle.roster.proofs.Imports.{◌≡◌, ◌∙◌, ap, sym, refl, codes, Atom, Forest, in_front, forest_of-members_of}
use Rattle.canonical_sexp.specs.declared.sexp.Sexp.TheVariants.{List as Branch}
use Rattle.roster.proofs.reading.machines_in.Goals as goal

-- the word and the version are in front of the members that are left
pub returns-clause-found : goal.returns-clause-found
returns-clause-found c =
    let left : Forest = c.take_next-2.new.self in
    let version : c.in_ok-version.version ≡ Atom (codes "1") =
    c.if-not-is_word-2.ensures.0 refl in
    let word : c.in_ok-word.word ≡ Atom (codes "roster") = c.if-not-is_word.ensures.0 refl in
    c.in_ok-members.ensures.found ∙ ap Branch (c.in_ok-word.ensures.found
    ∙ ap (in_front c.in_ok-word.word) c.in_ok-version.ensures.found
    ∙ ap (λ t. in_front t (in_front c.in_ok-version.version left)) word
    ∙ ap (λ t. in_front (Atom (codes "roster")) (in_front t left)) version
    ∙ ap (λ f. in_front (Atom (codes "roster")) (in_front (Atom (codes "1")) f)) (sym (forest_of-members_of left)))
