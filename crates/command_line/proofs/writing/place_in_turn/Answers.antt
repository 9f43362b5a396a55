use Rattle.std.proofs.Common.{Bool, true, false}
use Rattle.command_line.proofs.Imports.{◌≡◌, ◌∙◌, List, ℕ, ap, subst, inl, inr, rules, is_ok}
use Rattle.command_line.proofs.Imports.{OnErr, OnOk, PlacesAll, SetsSome, with_files}
use Rattle.command_line.proofs.Cuts.{all_where, on_err, some_ahead, some_where}
use Rattle.command_line.proofs.writing.place_in_turn.Goals as goal

pub returns-in_err-place_files-clause-err : goal.returns-in_err-place_files-clause-err
returns-in_err-place_files-clause-err g c =
    let store = g.S.Store in
    let answer = c.args.answer.now in
    let old = store.files c.args.store.now in
    let new = store.files c.place_files.new.store in
    let P : List (List ℕ × List ℕ) → Type 0 = λ files. SetsSome old files new in
    let some : SetsSome old c.files_ahead.result.now new = search rules in
    on_err c.from_residual.result
    (some_ahead old old new answer.ahead answer.files (subst P c.files_ahead.ensures some))

pub returns-in_err-place_files-clause-calls : goal.returns-in_err-place_files-clause-calls
returns-in_err-place_files-clause-calls g c =
    let store = g.S.Store in
    let now = c.args.store.now in
    let end = c.place_files.new.store in
    let answer = c.args.answer.now in
    let failed : is_ok c.from_residual.result ≡ false = search rules in
    let P : List (List ℕ × List ℕ) → Type 0 = λ files.
    PlacesAll store now files false end in
    let calls : PlacesAll store now c.files_ahead.result.now false end =
    search rules in
    inl (subst P c.files_ahead.ensures calls, failed)

pub returns-clause-ok : goal.returns-clause-ok
returns-clause-ok g c =
    let store = g.S.Store in
    let answer = c.args.answer.now in
    let old = store.files c.args.store.now in
    let mid = store.files c.place_files.new.store in
    let new = store.files c.place_files-2.new.store in
    let result = c.place_files-2.result in
    let P : List (List ℕ × List ℕ) → Type 0 = λ files. OnOk result (new ≡ with_files mid files) in
    all_where old mid new answer.ahead answer.files result
    (c.in_ok-place_files.ensures.ok ∙ ap (with_files old) c.files_ahead.ensures)
    (subst P c.other_files.ensures c.place_files-2.ensures.ok)

pub returns-clause-err : goal.returns-clause-err
returns-clause-err g c =
    let store = g.S.Store in
    let answer = c.args.answer.now in
    let old = store.files c.args.store.now in
    let mid = store.files c.place_files.new.store in
    let new = store.files c.place_files-2.new.store in
    let result = c.place_files-2.result in
    let P : List (List ℕ × List ℕ) → Type 0 = λ files. OnErr result (SetsSome mid files new) in
    some_where old mid new answer.ahead answer.files result
    (c.in_ok-place_files.ensures.ok ∙ ap (with_files old) c.files_ahead.ensures)
    (subst P c.other_files.ensures c.place_files-2.ensures.err)

pub returns-clause-calls : goal.returns-clause-calls
returns-clause-calls g c =
    let store = g.S.Store in
    let now = c.args.store.now in
    let mid = c.place_files.new.store in
    let new = c.place_files-2.new.store in
    let ok : Bool = is_ok c.place_files-2.result in
    let first : List (List ℕ × List ℕ) → Type 0 = λ files.
    PlacesAll store now files true mid in
    let others : List (List ℕ × List ℕ) → Type 0 = λ files.
    PlacesAll store mid files ok new in
    let calls : PlacesAll store now c.files_ahead.result.now true mid =
    search rules in
    inr (
      mid,
      subst first c.files_ahead.ensures calls,
      c.in_ok-place_files.ensures.ok ∙ ap (with_files (store.files now)) c.files_ahead.ensures,
      subst others c.other_files.ensures c.place_files-2.ensures.calls,
    )
