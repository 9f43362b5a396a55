use Rattle.log_repair.proofs.repairing.take_turn.Goals as goal
use Rattle.log_repair.proofs.Going.{adds_so, fails_here, fails_so, going_none, going_start, if_failed}
use Rattle.log_repair.proofs.Imports.{[], ap, false, gaps, happens, has_stopped, held, History, if◌then◌else◌, List}
use Rattle.log_repair.proofs.Imports.{MachineState, node_of_sealed, on_err_weaker, on_ok_weaker, SealedEntry, sym, true}
use Rattle.log_repair.proofs.Imports.{WorldState, ℕ, ◌∙◌, ◌≡◌}
use Rattle.log_repair.proofs.{OneWay.asks_continue, Turns.turn_of}

-- a machine that has stopped asks for nothing
pub returns-then-stopped-clause-ok : goal.returns-then-stopped-clause-ok
returns-then-stopped-clause-ok c =
    let ms : List MachineState = c.args.world.now.machines in
    let a : MachineState = c.index-machine.result.now in
    let seen : c.world.inside.machines.items ≡ ms = ap (λ (s : WorldState). s.machines) c.world.view_is in
    let at = rw seen at c.index-machine.ensures in
    let stopped : has_stopped a ≡ true = sym c.stopped.ensures ∙ c.if-stopped.true in
    going_start (λ next log says. turn_of (happens node_of_sealed next log) ms c.args.m a c.requires at [] (rw stopped))

-- no digest was asked for yet
pub returns-in_err-missing-clause-err : goal.returns-in_err-missing-clause-err
returns-in_err-missing-clause-err c =
    if_failed c.from_residual.result (fails_here (going_none {start = []})
    (λ next log says u. asks_continue node_of_sealed next log c.args.m _ u))

pub returns : goal.returns
returns c =
    let ms : List MachineState = c.args.world.now.machines in
    let a : MachineState = c.index-machine.result.now in
    let ds : List (List ℕ) = c.as_slice.result.now in
    let seen : c.world.inside.machines.items ≡ ms = ap (λ (s : WorldState). s.machines) c.world.view_is in
    let at = rw seen at c.index-machine.ensures in
    let missed : ds ≡ gaps node_of_sealed (held a.events) =
    c.as_slice.ensures.value ∙ c.in_ok-missing.ensures
    ∙ ap (λ (l : History SealedEntry). gaps node_of_sealed (held l.events)) c.log.ensures.log in
    let runs : has_stopped a ≡ false = sym c.stopped.ensures ∙ c.if-stopped.false in
    let wanted : (if has_stopped a then [] else gaps node_of_sealed (held a.events)) ≡ ds = rw runs (sym missed) in
    record {
      ok = on_ok_weaker c.ask_all.result (λ adds. adds_so (λ next log says. turn_of
          (happens node_of_sealed next log) ms c.args.m a c.requires at ds wanted) adds) c.ask_all.ensures.ok;
      err = on_err_weaker c.ask_all.result (λ fails. fails_so (λ next log says. turn_of
          (happens node_of_sealed next log) ms c.args.m a c.requires at ds wanted) fails) c.ask_all.ensures.err;
    }
