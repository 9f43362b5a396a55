-- What is left of a machine's actions, and why, is uniquely determined.
use Rattle.std.proofs.Common.{not, Option, Some, None}
use Rattle.std.specs.Prelude.{Result, Ok, Err}
use Rattle.polling_world.proofs.Imports.{◌≡◌, Bool, true, false, refl, arith, IsTrue, Deed, Left, LeftWhy}
use Rattle.polling_world.proofs.Imports.{MachineState, has_stopped, Refuses, IsGoing, IsWhy, IsLeft}
use Rattle.polling_world.specs.declared.left.LeftWhy.TheVariants as why
use Rattle.polling_world.proofs.Ruled.{one_rule}

-- what holds isn't denied
clash : (b : Bool) → IsTrue b → IsTrue (not b) → ⊥
clash true so none = cc
clash false so none = cc

-- what the rules answered where this is the first cause
abbrev answer_of : LeftWhy → Result (Unit {0}) LeftWhy
answer_of (why.SupervisorNot w) = Err (why.SupervisorNot w)
answer_of (why.BoothNot w) = Err (why.BoothNot w)
answer_of _ = Ok tt

-- a machine that is going has asked them
asked : (m : MachineState) (deed : Deed) (w : LeftWhy) → IsGoing m → IsWhy m deed w →
    Refuses m.config m.events deed (answer_of w)
asked m deed why.Stopped going first = absurd (clash (has_stopped m) first going)
asked m deed (why.SupervisorNot w) going first = first.refused
asked m deed (why.BoothNot w) going first = first.refused
asked m deed _ going first = first.allowed

-- they answered alike
alike : (m : MachineState) (deed : Deed) (a b : LeftWhy) → IsGoing m → IsWhy m deed a → IsWhy m deed b →
    answer_of a ≡ answer_of b
alike m deed a b going x y =
    one_rule m.config.role m.config.number m.events deed (answer_of a) (answer_of b) (asked m deed a going x)
    (asked m deed b going y)

-- one cause is the first against a deed
one_why : (m : MachineState) (deed : Deed) (a b : LeftWhy) → IsWhy m deed a → IsWhy m deed b → a ≡ b
one_why m deed why.Stopped why.Stopped x y = refl
one_why m deed why.Stopped _ x y = absurd (clash (has_stopped m) x y.going)
one_why m deed _ why.Stopped x y = absurd (clash (has_stopped m) y x.going)
one_why m deed (why.SupervisorNot v) b x y = cc (alike m deed (why.SupervisorNot v) b x.going x y)
one_why m deed (why.BoothNot v) b x y = cc (alike m deed (why.BoothNot v) b x.going x y)
one_why m deed a (why.SupervisorNot w) x y = cc (alike m deed a (why.SupervisorNot w) y.going x y)
one_why m deed a (why.BoothNot w) x y = cc (alike m deed a (why.BoothNot w) y.going x y)
one_why m deed why.Full why.Full x y = refl
one_why m deed why.Full _ x y = absurd (omega (arith, x.full, y.room))
one_why m deed _ why.Full x y = absurd (omega (arith, y.full, x.room))
one_why m deed why.StampSpent why.StampSpent x y = refl
one_why m deed why.StampSpent _ x y = absurd (y.stamp x.stamp)
one_why m deed _ why.StampSpent x y = absurd (x.stamp y.stamp)
one_why m deed why.Spent why.Spent x y = refl
one_why m deed why.Spent why.Ready x y = absurd (omega (arith, x.spent, y.unspent))
one_why m deed why.Ready why.Spent x y = absurd (omega (arith, y.spent, x.unspent))
one_why m deed why.Ready why.Ready x y = refl

-- what is left of a machine's actions is uniquely determined
pub one_left : (m : MachineState) (a b : Option Left) → IsLeft m a → IsLeft m b → a ≡ b
one_left m None None p q = refl
one_left m None (Some k) p q = let there = q.action in cc
one_left m (Some l) None p q = let here = p.action in cc
one_left m (Some l) (Some k) p q =
    let here = p.action in
    let there = q.action in
    let deed : q.deed ≡ p.deed = cc in
    let why : l.why ≡ k.why = one_why m p.deed l.why k.why p.cause (rw deed at q.cause) in
    let place : l.place ≡ k.place = let x = p.place in let y = q.place in cc in
    λ i. Some (record { place = place i; why = why i })
