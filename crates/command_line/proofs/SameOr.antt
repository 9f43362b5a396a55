-- What is read in one way has one answer.
use Rattle.command_line.proofs.Imports.{◌≡◌, ◌∙◌, inl, inr, agree_equal, ap, sym, subst, Result, Ok, Err, Refusal, Agree, Answer}
use Rattle.command_line.proofs.Imports.{OrRefused, refusal_answer}

-- what is read in one way has one answer, where what is found has
pub same_or : {T : Type 0} (Same : T → T → Type 0) (Gives : Result T Refusal → Type 0) (IsFor : T → Answer → Type 0)
    (a b : Answer) → ((p q : Result T Refusal) → Gives p → Gives q → Agree Same p q) →
    ((f g : T) → Gives (Ok f) → Same f g → IsFor f a → IsFor g b → a ≡ b) → OrRefused Gives IsFor a →
    OrRefused Gives IsFor b → a ≡ b
same_or Same Gives IsFor a b one next (inl (r, gives, e)) (inl (s, gives', e')) =
    e ∙ ap refusal_answer (one (Err r) (Err s) gives gives') ∙ sym e'
same_or Same Gives IsFor a b one next (inl (r, gives, e)) (inr (g, gives', is)) =
    absurd (one (Err r) (Ok g) gives gives')
same_or Same Gives IsFor a b one next (inr (f, gives, is)) (inl (s, gives', e)) =
    absurd (one (Ok f) (Err s) gives gives')
same_or Same Gives IsFor a b one next (inr (f, gives, is)) (inr (g, gives', is')) =
    next f g gives (one (Ok f) (Ok g) gives gives') is is'

-- what has one answer has one where what is found has
pub one_or : {T : Type 0} (Gives : Result T Refusal → Type 0) (IsFor : T → Answer → Type 0) (a b : Answer) →
    ((p q : Result T Refusal) → Gives p → Gives q → p ≡ q) →
    ((found : T) → Gives (Ok found) → IsFor found a → IsFor found b → a ≡ b) → OrRefused Gives IsFor a →
    OrRefused Gives IsFor b → a ≡ b
one_or {T} Gives IsFor a b one next =
    same_or (λ (f g : T). f ≡ g) Gives IsFor a b (λ p q x y. agree_equal p q (one p q x y))
    (λ f g gives same is also. next f gives is (subst (λ (found : T). IsFor found b) (sym same) also))
