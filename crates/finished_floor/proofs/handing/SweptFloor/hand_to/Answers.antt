use Rattle.finished_floor.proofs.Imports.{◌∙◌, ◌≡◌, ◌++◌, ◌∷◌, [], ℕ, Bool, List, Option, Some, None, ap, subst, sym}
use Rattle.finished_floor.proofs.Imports.{refl, append-nil, SealedEntry, Lose, Loss, LossWhy, MachineState, stands_at}
use Rattle.finished_floor.proofs.Imports.{is_scripted, lost_by, IsFate}
use Rattle.finished_floor.proofs.handing.SweptFloor.hand_to.Goals as goal

-- what became of the entry, by its own maker and number
fate_is : (loses : List Lose) (to from number : ℕ) (e : SealedEntry) (scripted : Bool) (m n : MachineState)
    (told cause : Option LossWhy) → from ≡ e.entry.maker → number ≡ e.entry.number →
    scripted ≡ is_scripted loses from number to → told ≡ cause → IsFate scripted m e told n →
    IsFate (is_scripted loses e.entry.maker e.entry.number to) m e cause n
fate_is loses to from number e scripted m n told cause f k s t fate =
    let is : scripted ≡ is_scripted loses e.entry.maker e.entry.number to =
    s ∙ ap (λ a. is_scripted loses a number to) f ∙ ap (λ a. is_scripted loses e.entry.maker a to) k in
    subst (λ b. IsFate b m e cause n) is (subst (λ (o : Option LossWhy). IsFate scripted m e o n) t fate)

loss_is : (losses after : List Loss) (to from number : ℕ) (e : SealedEntry) (why : LossWhy) → from ≡ e.entry.maker →
    number ≡ e.entry.number → after ≡ losses ++ record { from = from; number = number; to = to; why = why } ∷ [] →
    after ≡ losses ++ lost_by e to (Some why)
loss_is losses after to from number e why f k is =
    is ∙ ap (λ a. losses ++ record { from = a; number = number; to = to; why = why } ∷ []) f
    ∙ ap (λ a. losses ++ record { from = e.entry.maker; number = a; to = to; why = why } ∷ []) k

-- it is another's
pub fate-requires : goal.fate-requires
fate-requires c = λ own. c.requires.other (own ∙ c.requires.numbered.numbers c.args.to c.index_mut.result.now
    (stands_at c.args.self.now.machines.items c.args.to c.index_mut.result.now c.requires.to c.index_mut.ensures.value))

-- it was heard
pub returns-in-None : goal.returns-in-None
returns-in-None c = record {
  machine = c.index_mut.result.now;
  then_machine = c.fate.new.machine;
  cause = None;
  stood = stands_at c.args.self.now.machines.items c.args.to c.index_mut.result.now c.requires.to c.index_mut.ensures.value;
  fate = fate_is c.args.self.now.loses.now c.args.to c.maker-from.result c.number-number.result c.args.s
      c.is_scripted-scripted.result c.index_mut.result.now c.fate.new.machine c.fate.result None c.maker-from.ensures
      c.number-number.ensures c.is_scripted-scripted.ensures c.in-None.is c.fate.ensures;
  changed = refl;
  loses = refl;
  losses = sym (append-nil c.args.self.now.losses.items);
}

-- it is lost
pub returns-in_ok-push-in-Some : goal.returns-in_ok-push-in-Some
returns-in_ok-push-in-Some c = record {
  machine = c.index_mut.result.now;
  then_machine = c.fate.new.machine;
  cause = Some c.in-Some.why;
  stood = stands_at c.args.self.now.machines.items c.args.to c.index_mut.result.now c.requires.to c.index_mut.ensures.value;
  fate = fate_is c.args.self.now.loses.now c.args.to c.maker-from.result c.number-number.result c.args.s
      c.is_scripted-scripted.result c.index_mut.result.now c.fate.new.machine c.fate.result (Some c.in-Some.why)
      c.maker-from.ensures c.number-number.ensures c.is_scripted-scripted.ensures c.in-Some.is c.fate.ensures;
  changed = refl;
  loses = refl;
  losses = loss_is c.args.self.now.losses.items c.push.new.self.items c.args.to c.maker-from.result
      c.number-number.result c.args.s c.in-Some.why c.maker-from.ensures c.number-number.ensures
      c.in_ok-push-in-Some.ensures.items;
}
