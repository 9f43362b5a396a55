use Rattle.std.proofs.Common.{Bool, true, false}
use Rattle.command_line.proofs.Imports.{◌≡◌, ◌∙◌, List, ℕ, ap, sym, subst, rules, is_ok, with_file, unrisen}
use Rattle.command_line.proofs.Imports.{PutsAll, drop_all, refl}
use Rattle.command_line.proofs.Calls.{as_put, put_next, put_fails, set_next, some_next}
use Rattle.command_line.proofs.writing.put_files.Goals as goal

pub returns-in_err-put_file-clause-calls : goal.returns-in_err-put_file-clause-calls
returns-in_err-put_file-clause-calls g c =
    let store = g.S.Store in
    let file : List ℕ × List ℕ = c.file-item.result in
    let end = c.put_file.new.store in
    let failed : is_ok c.from_residual.result ≡ false = search rules in
    let put = as_put store.creates store.appends c.loop-file.store end file c.name.result.now c.bytes.result.now
    (is_ok c.put_file.result) false c.name.ensures c.bytes.ensures (search rules) c.put_file.ensures.offers in
    let P : Bool → Type 0 = λ ok. PutsAll store c.args.store.now c.args.files.now ok end in
    subst P (sym failed) (c.loop-file.invariant.calls end false
    (put_fails store c.loop-file.store end c.args.files.now c.loop-file.file-index file
    c.loop-file-test.true c.file-item.is put))

pub loop-file-preserved : goal.loop-file-preserved
loop-file-preserved g c =
    let store = g.S.Store in
    let file : List ℕ × List ℕ = c.file-item.result in
    let mid = c.put_file.new.store in
    let put = as_put store.creates store.appends c.loop-file.store mid file c.name.result.now c.bytes.result.now
    (is_ok c.put_file.result) true c.name.ensures c.bytes.ensures (search rules) c.put_file.ensures.offers in
    let set = c.in_ok-put_file.ensures.ok
    ∙ ap (λ n. with_file (store.files c.loop-file.store) n c.bytes.result.now) c.name.ensures
    ∙ ap (with_file (store.files c.loop-file.store) file.0) c.bytes.ensures in
    record {
      files = set_next (store.files c.loop-file.store) (store.files mid) c.args.files.now c.loop-file.file-index file
          c.loop-file-test.true c.file-item.is set ∙ c.loop-file.invariant.files;
      some = λ new rest. c.loop-file.invariant.some new
          (some_next (store.files c.loop-file.store) (store.files mid) new c.args.files.now c.loop-file.file-index file
          c.loop-file-test.true c.file-item.is set rest);
      write_faults = unrisen _ _ c.in_ok-put_file.ensures.cause ∙ c.loop-file.invariant.write_faults;
      answered = search rules;
      read_faults = search rules;
      calls = λ end ok rest. c.loop-file.invariant.calls end ok
          (put_next store c.loop-file.store mid end c.args.files.now c.loop-file.file-index file
          ok c.loop-file-test.true c.file-item.is put rest);
    }

pub returns-clause-calls : goal.returns-clause-calls
returns-clause-calls g c =
    let store = g.S.Store in
    let now = c.loop-file.store in
    let P : List (List ℕ × List ℕ) → Type 0 = λ files. PutsAll store now files true now in
    c.loop-file.invariant.calls now true
    (subst P (sym (drop_all c.loop-file.file-index c.args.files.now c.loop-file-test.false)) (refl, refl))
