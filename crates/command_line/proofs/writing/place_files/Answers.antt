use Rattle.command_line.proofs.writing.place_files.Goals as goal
use Rattle.command_line.proofs.{Calls.none_placed, Calls.not_placed, Calls.placed, Cuts.all_set_where}
use Rattle.command_line.proofs.Imports.{is_ok, List, PlacesAll, PutsAll, rules, subst, sym, ℕ, ◌∙◌, ◌≡◌}
use Rattle.std.proofs.Common.{Bool, false, length, true}

pub returns-then-is_empty-clause-calls : goal.returns-then-is_empty-clause-calls
returns-then-is_empty-clause-calls g c =
    let store = g.S.Store in
    none_placed store c.args.store.now c.args.files.now (search rules)

pub returns-in_err-put_files-clause-calls : goal.returns-in_err-put_files-clause-calls
returns-in_err-put_files-clause-calls g c =
    let store = g.S.Store in
    let now = c.args.store.now in
    let end = c.put_files.new.store in
    let files : List (List ℕ × List ℕ) = c.args.files.now in
    let failed : is_ok c.from_residual.result ≡ false = search rules in
    let P : Bool → Type 0 = λ ok. PlacesAll store now files ok end in
    let calls : PutsAll store now files false end = search rules in
    subst P (sym failed) (not_placed store now end files calls)

pub returns-clause-err : goal.returns-clause-err
returns-clause-err g c =
    let store = g.S.Store in
    all_set_where c.finish.result (store.files c.args.store.now) (store.files c.finish.new.self) c.args.files.now
    (c.finish.ensures.files ∙ c.in_ok-put_files.ensures.ok)

pub returns-clause-calls : goal.returns-clause-calls
returns-clause-calls g c =
    let store = g.S.Store in
    let now = c.args.store.now in
    let mid = c.put_files.new.store in
    let files : List (List ℕ × List ℕ) = c.args.files.now in
    let some : length files ≡ 0 → ⊥ = search rules in
    let calls : PutsAll store now files true mid = search rules in
    placed store now mid c.finish.new.self files (is_ok c.finish.result) some calls
    c.finish.ensures.step
