-- Steps that read, and steps between them that don't.
use Rattle.log_commands.proofs.Imports.{all_weaker, arith, Err, err_by, IfOk-weaker, IfSome, InputFault, IsAbsent}
use Rattle.log_commands.proofs.Imports.{IsReadFrom, length, List, no_cause, none_read, Ok, on_refusal, on_weaker}
use Rattle.log_commands.proofs.Imports.{OnAllRead, OnRead, Option, refl, Refusal, refusal_of, Result, StoreGhosts, ℕ}
use Rattle.log_commands.proofs.Imports.{◌≡◌, ◌≢◌}
use Rattle.evidence.specs.declared.fault.InputFault.TheVariants.{ReadFault}

module _ {S T U : Type 0} (of : StoreGhosts S) (value : T → U) (names : List (List ℕ)) where
  -- what is read, under another name
  pub read_as : (First Whole : List (Option (List ℕ)) → Result U Refusal → Type 0) (old new : S)
      (result : Result T InputFault) → IsReadFrom of value names First old result new
      → ((files : List (Option (List ℕ))) (answer : Result U Refusal) → First files answer → Whole files answer)
      → IsReadFrom of value names Whole old result new
  read_as First Whole old new result read join = record {
    ok = IfOk-weaker result (λ found. OnAllRead of names (λ files. First files (Ok (value found))) old new)
        (λ found. OnAllRead of names (λ files. Whole files (Ok (value found))) old new)
        (λ found. all_weaker of names (λ files. First files (Ok (value found)))
        (λ files. Whole files (Ok (value found))) old new (λ files long. join files (Ok (value found)))) read.ok;
    err = err_by result (λ refusal. OnRead of names (λ files. First files (Err refusal)) old new)
        (λ refusal. OnRead of names (λ files. Whole files (Err refusal)) old new)
        (λ refusal. on_weaker of names (λ files. First files (Err refusal)) (λ files. Whole files (Err refusal)) old new
        (λ files long. join files (Err refusal))) read.err;
    absent = read.absent;
    absences = read.absences;
    read_fault = read.read_fault;
    files = read.files;
    write_faults = read.write_faults;
  }

  -- a step that reads nothing is refused
  pub refused_unread : (Whole : List (Option (List ℕ)) → Result U Refusal → Type 0) (now : S) (fault : InputFault)
      → IfSome (refusal_of fault)
      (λ refusal. (files : List (Option (List ℕ))) → length files ≡ length names → Whole files (Err refusal))
      → fault ≢ ReadFault → ¬ IsAbsent fault → IsReadFrom of value names Whole now (Err fault) now
  refused_unread Whole now fault err no_read no_absence = record {
    ok = tt;
    err = on_refusal
        (λ refusal. (files : List (Option (List ℕ))) → length files ≡ length names → Whole files (Err refusal))
        (λ refusal. OnRead of names (λ files. Whole files (Err refusal)) now now) (refusal_of fault)
        (λ refusal holds. none_read of names (λ files. Whole files (Err refusal)) now holds) err;
    absent = λ not_memory. record {
      only = λ absence. absurd (no_absence absence);
      always = λ more. absurd (omega (arith, more));
    };
    absences = omega arith;
    read_fault = no_cause (of.read_faults now) (of.read_faults now) refl
        (λ e. no_read (let same : fault ≡ ReadFault = cc in same));
    files = refl;
    write_faults = refl;
  }
