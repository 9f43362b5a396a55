-- Words by which things are named.
use Rattle.rule_language.proofs.Imports.{ap, bytes_eq, drop, drop_more, false, first_named, get_or, length, List, refl}
use Rattle.rule_language.proofs.Imports.{ℕ, ◌+◌, ◌<◌, ◌∙◌, ◌≡◌}

-- a thing is passed whose word it isn't
pub named_next : {A : Type 0} (word_of : A → List ℕ) (things : List A) (i : ℕ) (a : A) (word : List ℕ)
    → i < length things → bytes_eq word (word_of (get_or things i a)) ≡ false
    → first_named word_of (drop i things) word ≡ first_named word_of (drop (i + 1) things) word
named_next word_of things i a word inside other =
    ap (λ left. first_named word_of left word) (drop_more things i a inside) ∙ rw other refl
