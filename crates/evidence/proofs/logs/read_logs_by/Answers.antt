use Rattle.evidence.proofs.Imports.{All-nil, All-push, AreValid, drop, GivesLogs, List, LogRead, map, Ok, string_bytes}
use Rattle.evidence.proofs.Imports.{sym, take, take_all, ◌+◌, ◌∙◌}
use Rattle.evidence.proofs.LogLists.{names_by, no_logs, one_log_more, one_log_refused}
use Rattle.evidence.proofs.{Readings.stands, Steps.read_last}
use Rattle.evidence.proofs.logs.read_logs_by.Goals as goal

pub loop-name-init : goal.loop-name-init
loop-name-init g c =
    let machines = c.args.roster.now.machines in
    let election = c.args.election.now in
    record {
      so_far = rw c.new-logs.ensures.items (no_logs machines election g.S.Store c.args.store.now);
      valid = rw c.new-logs.ensures.items (All-nil (λ (log : LogRead). AreValid machines election log.kept));
    }

pub loop-name-preserved : goal.loop-name-preserved
loop-name-preserved g c =
    let store = g.S.Store in
    let given = c.in-Ok.ensures in
    let machines = c.args.roster.now.machines in
    let election = c.args.election.now in
    let logs = c.loop-name.logs.items in
    let now = c.loop-name.store in
    let new = c.read_log_by.new.store in
    let names = names_by c.args.names.now c.loop-name.name-index c.name-item.result c.as_str.result.now
    c.loop-name-test.true c.name-item.is c.as_str.ensures.value in
    record {
      so_far = rw (c.in_ok-push-in-Ok.ensures.items, names.0)
          (one_log_more machines election store (map string_bytes (take c.loop-name.name-index c.args.names.now)) logs
          c.as_str.result.now c.args.store.now now new c.loop-name.invariant.so_far
          (record { absences = given.absences; files = given.unchanged.0; write_faults = given.unchanged.1 })
          c.in-Ok.log given.ok (λ more. let no = given.absent.always more in cc)
          (stands (store.read_faults now) (store.read_faults new) given.read_fault (λ e. cc)));
      valid = rw c.in_ok-push-in-Ok.ensures.items
          (All-push (λ (log : LogRead). AreValid machines election log.kept) logs c.in-Ok.log
          c.loop-name.invariant.valid given.valid);
    }

pub returns-in-Err : goal.returns-in-Err
returns-in-Err g c =
    let given = c.in-Err.ensures in
    let strings = c.args.names.now in
    let i = c.loop-name.name-index in
    let name = c.as_str.result.now in
    let names = names_by strings i c.name-item.result name c.loop-name-test.true c.name-item.is
    c.as_str.ensures.value in
    rw names.1
    (one_log_refused c.args.roster.now.machines c.args.election.now g.S.Store (map string_bytes (take i strings))
    c.loop-name.logs.items name c.args.store.now c.loop-name.store c.read_log_by.new.store c.loop-name.invariant.so_far
    (record { absences = given.absences; files = given.unchanged.0; write_faults = given.unchanged.1 })
    (λ found. found.items) (map string_bytes (drop (i + 1) strings)) c.in-Err.why c.log_fault.result
    (rw (c.as_str-in-Err.ensures.value ∙ sym c.as_str.ensures.value) at c.log_fault.ensures) given.err given.absent
    given.read_fault)

pub returns : goal.returns
returns g c =
    let names = c.args.names.now in
    let Gives = GivesLogs c.args.roster.now.machines c.args.election.now (map string_bytes names) in
    read_last g.S.Store (λ (logs : List LogRead). logs) (map string_bytes names) Gives (λ found. found.items) Gives
    c.args.store.now c.loop-name.store c.loop-name.logs.items (Ok c.loop-name.logs)
    (rw (take_all c.loop-name.name-index names c.loop-name-test.false) at c.loop-name.invariant.so_far)
    (λ files many gives. gives) tt tt
