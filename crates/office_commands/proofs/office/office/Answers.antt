use Rattle.std.proofs.Common.{true, false}
use Rattle.std.specs.Prelude.{codes}
use Rattle.office_commands.proofs.Imports.{◌≡◌, ◌∙◌, List, ℕ, ap, sym, subst, rules, OnReadFile, stands, refused_answer}
use Rattle.office_commands.proofs.Imports.{office_file, IsThere}
use Rattle.office_commands.proofs.OfficeCommand.{answer_by, office_answered}
use Rattle.office_commands.proofs.office.office.Goals as goal

pub returns-in_ok-refused-in-Ok-true : goal.returns-in_ok-refused-in-Ok-true
returns-in_ok-refused-in-Ok-true g c =
    let store = g.S.Store in
    let old = c.args.store.now in
    let name = c.args.name.now in
    let there = c.in-Ok-true.field-0 in
    let given = c.in-Ok-true.ensures in
    let is : there ≡ true = search rules in
    let file : c.as_str.result.now ≡ office_file name = search rules in
    let again : c.as_str-in-Ok-true.result.now ≡ office_file name = search rules in
    office_answered store name c.args.seed there c.in_ok-refused-in-Ok-true.field-0 old
    c.is_there.new.store
    (subst (λ (n : List ℕ). OnReadFile store n 0 (IsThere there) old c.is_there.new.store) file given.there)
    given.absent
    (stands (store.read_faults old) (store.read_faults c.is_there.new.store) given.read_fault (λ e. cc)) given.files
    given.write_faults
    (c.in_ok-refused-in-Ok-true.ensures ∙ ap (λ (n : List ℕ). refused_answer n 0 (codes "Exists")) again
    ∙ ap (answer_by name c.args.seed) (sym is))

pub returns-in_ok-made_of-in-Ok-false : goal.returns-in_ok-made_of-in-Ok-false
returns-in_ok-made_of-in-Ok-false g c =
    let store = g.S.Store in
    let old = c.args.store.now in
    let name = c.args.name.now in
    let there = c.in-Ok-false.field-0 in
    let given = c.in-Ok-false.ensures in
    let is : there ≡ false = search rules in
    let file : c.as_str.result.now ≡ office_file name = search rules in
    office_answered store name c.args.seed there c.in_ok-made_of-in-Ok-false.field-0 old
    c.is_there.new.store
    (subst (λ (n : List ℕ). OnReadFile store n 0 (IsThere there) old c.is_there.new.store) file given.there)
    given.absent
    (stands (store.read_faults old) (store.read_faults c.is_there.new.store) given.read_fault (λ e. cc)) given.files
    given.write_faults
    (c.in_ok-made_of-in-Ok-false.ensures ∙ ap (answer_by name c.args.seed) (sym is))
