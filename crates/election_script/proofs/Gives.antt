-- What a reading that gives a value gives.
use Rattle.election_script.proofs.Imports.{ap, Bool, cond, cond_both, Err, false, None, Ok, ok_or, Option, refl, Result}
use Rattle.election_script.proofs.Imports.{Some, subst, true, ◌>>=◌, ◌≡◌}

-- each value that the reading gives is so
abbrev pub Gives : {A E : Type 0} → Result A E → (A → Type 0) → Type 0
Gives {A} r P = (a : A) → r ≡ Ok a → P a

-- a value
pub value_gives : {A E : Type 0} (P : A → Type 0) (a : A) → P a → Gives {E = E} (Ok a) P
value_gives P a holds b is = let same : a ≡ b = cc in subst P same holds

-- one reading after another
pub then_gives : {A B E : Type 0} (r : Result A E) (next : A → Result B E) (P : A → Type 0) (Q : B → Type 0) →
    Gives r P → ((a : A) → P a → Gives (next a) Q) → Gives (r >>= next) Q
then_gives (Ok a) next P Q first later b is = later a (first a refl) b is
then_gives (Err why) next P Q first later b is = cc

-- the same, where what the first gave is kept
pub then_gave : {A B E : Type 0} (r : Result A E) (next : A → Result B E) (Q : B → Type 0) →
    ((a : A) → r ≡ Ok a → Gives (next a) Q) → Gives (r >>= next) Q
then_gave r next Q later = then_gives r next (λ a. r ≡ Ok a) Q (λ a is. is) later

-- two readings, and a third after them
pub then_after : {A B C E : Type 0} (r : Result A E) (next : A → Result B E) (last : B → Result C E) (P : A → Type 0)
    (Q : C → Type 0) → Gives r P → ((a : A) → P a → Gives (next a >>= last) Q) → Gives ((r >>= next) >>= last) Q
then_after (Ok a) next last P Q first later b is = later a (first a refl) b is
then_after (Err why) next last P Q first later b is = cc

-- a reading by a test
pub either_gives : {A E : Type 0} (test : Bool) (r other : Result A E) (P : A → Type 0) → (test ≡ true → Gives r P) →
    (test ≡ false → Gives other P) → Gives (cond test r other) P
either_gives test r other P passed failed = cond_both test r other (λ read. Gives read P) passed failed

-- a test that must hold
pub if_gives : {A E : Type 0} (test : Bool) (r : Result A E) (why : E) (P : A → Type 0) → (test ≡ true → Gives r P) →
    Gives (cond test r (Err why)) P
if_gives test r why P passed = either_gives test r (Err why) P passed (λ failed a is. cc)

-- and one that mustn't
pub unless_gives : {A E : Type 0} (test : Bool) (why : E) (r : Result A E) (P : A → Type 0) → (test ≡ false → Gives r P)
    → Gives (cond test (Err why) r) P
unless_gives test why r P failed = either_gives test (Err why) r P (λ passed a is. cc) failed

-- something that must be there
pub some_gives : {A E : Type 0} (o : Option A) (why : E) (P : A → Type 0) → ((a : A) → o ≡ Some a → P a) →
    Gives (ok_or o why) P
some_gives (Some a) why P each b is = each b (let same : a ≡ b = cc in ap Some same)
some_gives None why P each b is = cc
