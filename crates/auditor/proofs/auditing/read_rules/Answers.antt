use Rattle.auditor.proofs.Imports.{Err, GivesRules, inl, IsFileRefused, List, map, max_rules, None, not_read, Option}
use Rattle.auditor.proofs.Imports.{refl, rule_tree, Some, stands, too_long, was_read, ℕ}
use Rattle.hall_outside.specs.declared.reading.FileFault.TheVariants as file
use Rattle.auditor.proofs.auditing.read_rules.Goals as goal

-- a file of rules that is too long gives that refusal
long_rules : (name : List ℕ) (this : Option (List ℕ)) → IsFileRefused max_rules file.TooLong this →
    GivesRules name this (Err (too_long name))
long_rules name None is = absurd is
long_rules name (Some bytes) is = inl (is, refl)

pub returns-in-Ok : goal.returns-in-Ok
returns-in-Ok g c =
    let of = g.S.Store in
    let old = c.args.store.now in
    let new = c.read_file.new.store in
    let given = c.in-Ok.ensures in
    was_read of (λ rules. map rule_tree rules.items) (GivesRules c.args.name.now) c.args.name.now max_rules old new
    c.in-Ok.bytes.items c.rules_of.result given.ok.1
    (rw (← c.as_slice.ensures.value) c.rules_of.ensures.ok)
    (rw (← c.as_slice.ensures.value) c.rules_of.ensures.err) c.rules_of.ensures.only
    (λ more. let never = given.absent.always more in cc)
    (stands (of.read_faults old) (of.read_faults new) given.read_fault (λ e. cc))
    (record { absences = given.absences; files = given.unchanged.0; write_faults = given.unchanged.1 })

pub returns-in-Err : goal.returns-in-Err
returns-in-Err g c =
    let given = c.in-Err.ensures in
    not_read g.S.Store (λ rules. map rule_tree rules.items) (GivesRules c.args.name.now) c.args.name.now max_rules
    c.args.store.now c.read_file.new.store c.in-Err.fault c.file_fault.result refl (long_rules c.args.name.now)
    c.file_fault.ensures given.err given.absent given.read_fault
    (record { absences = given.absences; files = given.unchanged.0; write_faults = given.unchanged.1 })
