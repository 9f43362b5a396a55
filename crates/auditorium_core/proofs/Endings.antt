-- What the program has done, by the answer that was made and how it was written.
use Rattle.auditorium_core.proofs.Imports
use Imports.{[], Answer, ap, AreAnswered, AreGood, arith, Bool, Command, command_parts, Err, false, Fault, HasDone}
use Imports.{HasRisen, inl, inr, IsAnswerOf, IsAny, IsGivenBy, IsOfAnswers, IsStill, IsUnwritten, IsWrittenBy, List}
use Imports.{Means, no_cause, none_read, office, Ok, on_exposed, OnExposed, OnRead, Outside, outside, refl, Result, run}
use Imports.{SinkGhosts, stands, Status, StoreGhosts, subst, sym, true, usage_answer, ℕ, ⊤, ◌∙◌, ◌≡◌}
use Rattle.auditorium_core.proofs.{Commands.same_command, DoneCases.done_as, DoneCases.Giving, DoneCases.is_done}
use Rattle.auditorium_core.proofs.{Exposed.answers_weaker, Statuses.status_words, StillAnswers.any_of_still}
use Rattle.command_line.specs.{Ending.EndsWith, Ending.IsToldAs, Promise.IsAnsweredBy}
use Rattle.command_line.specs.declared.answer.Fault.TheVariants as fault
use Rattle.command_line.specs.declared.status.Status.TheVariants as status

-- no command says by the status of a usage error that a file is absent
no_usage : (command : Command) → status.Usage ≡ (command_parts command).absence → ⊥
no_usage (office name seed) e = let no : status.Usage ≡ status.Done = e in cc
no_usage command e = let no : status.Usage ≡ status.Absent = e in cc

module _ {S : Type 0} (of : StoreGhosts S) (IsDone : Command → Type 0) (words : List (List ℕ)) where
  -- an answer of a command is one to the words that mean it
  pub answered_words : (command : Command) (old new : S) (result : Result Answer Fault) → IsDone command →
      Means words command → IsAnsweredBy of (command_parts command) old result new →
      AreAnswered of IsDone words old result new
  answered_words command old new (Ok answer) done means given = record {
    answer = inl (command, done, means, given.answer);
    -- it says that a file is absent exactly where it does so for the command, which is the only one
    -- of the words
    absent = record {
      only = λ (other, means', is). given.absent.only (rw (same_command words other command means' means) at is);
      always = λ more. (command, means, given.absent.always more);
    };
    read_fault = given.read_fault;
    files = given.files;
    write_faults = given.write_faults;
  }
  answered_words command old new (Err why) done means given = record {
    answer = tt;
    absent = tt;
    read_fault = given.read_fault;
    files = given.files;
    write_faults = given.write_faults;
  }

  -- words that are no command's are answered by a usage error, for which nothing is read
  pub usage_answered : (now : S) (answer : Answer) → ¬ AreGood IsDone words → answer ≡ usage_answer →
      AreAnswered of IsDone words now (Ok answer) now
  usage_answered now answer bad is = rw is (record {
    answer = inr (bad, refl, none_read of [] (λ files. ⊤) now (λ files many. tt));
    absent = record {
      only = λ (command, means, tells). absurd (no_usage command tells);
      always = λ more. absurd (omega (arith, more));
    };
    read_fault = no_cause (of.read_faults now) (of.read_faults now) refl (λ e. cc);
    files = refl;
    write_faults = refl;
  })

module _ {S K : Type 0} (of_store : StoreGhosts S) (of_sink : SinkGhosts K) (IsDone : Command → Type 0)
    (words : List (List ℕ)) (store read store_after : S) (out out_after : K) where
  -- the outside as it was, once the answer was made, and as it is
  abbrev old : Outside
  old = outside of_store of_sink store out

  abbrev mid : Outside
  mid = outside of_store of_sink read out

  abbrev new : Outside
  new = outside of_store of_sink store_after out_after

  -- the calls by which the answer is written, after the reads, and those by which it is given
  abbrev IsTold : Answer → Bool → Type 0
  IsTold answer ok = IsWrittenBy of_store of_sink answer read out ok store_after out_after

  abbrev IsGiven : Giving
  IsGiven = IsGivenBy of_store of_sink store out store_after out_after

  -- the answer was made in this call
  gives : (answer : Answer) (ok : Bool) → AreAnswered of_store IsDone words store (Ok answer) read →
      new.answered ≡ mid.answered → IsTold answer ok →
      IsAnswerOf IsDone words (IsGiven answer ok) old new answer
  gives answer ok made same told =
      record {
        answers = answers_weaker IsDone words answer (λ names P. OnRead of_store names P store read)
            (IsGiven answer ok) (λ names P on. (read, on, made.files, made.write_faults, told)) made.answer;
        absent = rw same made.absent;
      }

  -- making it changed no file, so what is written is seen against the files as they were
  was_told : (answer : Answer) (how : Status) → AreAnswered of_store IsDone words store (Ok answer) read →
      new.answered ≡ mid.answered → IsToldAs answer IsTold mid how new →
      HasDone IsDone words IsGiven old how new
  was_told answer how made same (inl (is, told, written)) =
      is_done IsDone words IsGiven old new how
      (subst IsOfAnswers (sym is) (status_words IsDone words old.files answer
      (answers_weaker IsDone words answer (λ names P. OnRead of_store names P store read) (OnExposed old.files)
      (λ names P. on_exposed of_store names P store read) made.answer)).some) (
        answer,
        gives answer true made same told,
        is,
        record { files = rw made.files at written.files; output = written.output },
      )
  was_told answer how made same (inr (is, told, cut)) =
      subst (λ (s : Status). HasDone IsDone words IsGiven old s new) (sym is) (
        answer,
        gives answer false made same told,
        record {
          cause = rw made.write_faults at cut.cause;
          files = rw made.files at cut.files;
          output = cut.output;
          all_files = rw (made.write_faults, made.files) at cut.all_files;
          no_output = cut.no_output;
        },
      )

  -- where there is no answer nothing was written
  unwritten : (result : Result Answer Fault) → AreAnswered of_store IsDone words store result read → new ≡ mid →
      IsUnwritten old new
  unwritten result made same = record {
    files = ap (λ (o : Outside). o.files) same ∙ made.files;
    output = ap (λ (o : Outside). o.output) same;
    write_faults = ap (λ (o : Outside). o.write_faults) same ∙ made.write_faults;
    output_faults = ap (λ (o : Outside). o.output_faults) same;
  }

  -- what was done, whether there is an answer or not
  pub was_done : (result : Result Answer Fault) (how : Status) →
      AreAnswered of_store IsDone words store result read → EndsWith result IsTold mid how new →
      HasDone IsDone words IsGiven old how new
  was_done (Ok answer) how made (told, same) = was_told answer how made same told
  was_done (Err fault.ReadFault) how made (is, same) =
      subst (λ (s : Status). HasDone IsDone words IsGiven old s new) (sym is) (
        subst (λ (o : Outside). HasRisen old.read_faults o.read_faults) (sym same)
            (made.read_fault.only refl),
        unwritten (Err fault.ReadFault) made same,
      )
  was_done (Err fault.Memory) how made (is, same) =
      subst (λ (s : Status). HasDone IsDone words IsGiven old s new) (sym is) (
        unwritten (Err fault.Memory) made same,
        ap (λ (o : Outside). o.read_faults) same
            ∙ stands old.read_faults mid.read_faults made.read_fault (λ e. cc),
      )

-- where the words are no run's, what was done without threads is what is to be done
pub done_as_any : (words : List (List ℕ)) (IsGiven : Giving) (old new : Outside) (how : Status) →
    ((script prefix : List ℕ) → ¬ Means words (run script prefix)) →
    HasDone IsStill words IsGiven old how new → HasDone IsAny words IsGiven old how new
done_as_any words IsGiven old new how none =
    done_as IsStill IsAny words IsGiven IsGiven old new
    (λ answer ok. any_of_still words none (IsGiven answer ok) answer) how
