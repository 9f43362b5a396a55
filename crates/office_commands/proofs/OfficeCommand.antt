-- The command `office`.
use Rattle.command_line.specs.declared.status.Status.TheVariants as status
use Rattle.command_line.proofs.CommandProofs.{carried_out_as, contains_as, HasOneAnswer, HasStatuses, IsCompleted}
use Rattle.command_line.proofs.CommandProofs.{IsOfCommands, status_is}
use Rattle.office_commands.proofs.Imports.{[], All-from_recursion, Answer, arith, ComesExactly, Fault, IsAnswerAsRead}
use Rattle.office_commands.proofs.Imports.{IsAnsweredBy, IsOfficeAnswer, IsThere, List, made_office, no_cause, None}
use Rattle.office_commands.proofs.Imports.{office_file, office_parts, Ok, one_read, OnReadFile, read_weaker, refl}
use Rattle.office_commands.proofs.Imports.{refused_answer, Result, StoreGhosts, subst, sym, ℕ, ◌∙◌, ◌∷◌, ◌≡◌}
use Rattle.std.proofs.Common.{Bool, false, Option, Some, true}
use Rattle.std.specs.{List.Contains, Prelude.codes}

-- the answer where the file is there
abbrev pub exists : List ℕ → Answer
exists name = refused_answer (office_file name) 0 (codes "Exists")

-- over a file the command has one answer
pub office_one : (name seed : List ℕ) → HasOneAnswer (office_parts name seed)
office_one name seed (None ∷ []) a b x y = x ∙ sym y
office_one name seed (Some bytes ∷ []) a b x y = x ∙ sym y
office_one name seed [] a b x y = absurd x
office_one name seed (this ∷ other ∷ more) a b x y = absurd x

-- `office` is carried out where the office's file is absent
pub office_completed : (name seed : List ℕ) → IsCompleted (office_parts name seed)
office_completed name seed (None ∷ []) answer right given = carried_out_as answer (made_office name seed) right tt
office_completed name seed (Some bytes ∷ []) answer right given = absurd (let no : ⊥ = cc in no)
office_completed name seed [] answer right given = absurd right
office_completed name seed (this ∷ other ∷ more) answer right given = absurd right

-- and has its statuses
of_files : (name seed : List ℕ) (files : List (Option (List ℕ))) (answer : Answer) →
    (office_parts name seed).IsAnswer files answer → Contains (office_parts name seed).statuses answer.status
of_files name seed (None ∷ []) answer is =
    contains_as (office_parts name seed).statuses answer (made_office name seed) is (0, omega arith, refl)
of_files name seed (Some bytes ∷ []) answer is =
    contains_as (office_parts name seed).statuses answer (exists name) is (1, omega arith, refl)
of_files name seed [] answer is = absurd is
of_files name seed (this ∷ other ∷ more) answer is = absurd is

pub office_has_statuses : (name seed : List ℕ) → HasStatuses (office_parts name seed)
office_has_statuses name seed = record {
  own = of_files name seed;
  some = All-from_recursion IsOfCommands (office_parts name seed).statuses (tt, (tt, tt));
}

-- the answer, by whether the file is there
abbrev pub answer_by : List ℕ → List ℕ → Bool → Answer
answer_by name seed true = exists name
answer_by name seed false = made_office name seed

-- it is right of the file
right_of : (name seed : List ℕ) (there : Bool) (this : Option (List ℕ)) → IsThere there this →
    IsOfficeAnswer name seed this (answer_by name seed there)
right_of name seed true (Some bytes) is = refl
right_of name seed true None is = absurd (let no : ⊥ = cc in no)
right_of name seed false None is = refl
right_of name seed false (Some bytes) is = absurd (let no : ⊥ = cc in no)

-- a look at a store says that there is no file
abbrev pub SaysNone : Result Bool Fault → Type 0
SaysNone result = result ≡ Ok false

-- `office` is done exactly where the store said that there is no file
pub office_answered : {S : Type 0} (of : StoreGhosts S) (name seed : List ℕ) (there : Bool) (answer : Answer)
    (old new : S) → OnReadFile of (office_file name) 0 (IsThere there) old new
    → ComesExactly (of.answered old).absences (of.answered new).absences (SaysNone (Ok there))
    → of.read_faults new ≡ of.read_faults old → of.files new ≡ of.files old → of.write_faults new ≡ of.write_faults old
    → answer ≡ answer_by name seed there → IsAnsweredBy of (office_parts name seed) old (Ok answer) new
office_answered of name seed there answer old new is comes same files writes told = record {
  answer =
      subst (λ (a : Answer). IsAnswerAsRead of (office_parts name seed) old a new) (sym told)
      (one_read of (office_file name) 0 (λ file. IsOfficeAnswer name seed file (answer_by name seed there)) old new
      (read_weaker of (office_file name) 0 (IsThere there)
      (λ file. IsOfficeAnswer name seed file (answer_by name seed there)) old new (right_of name seed there) is)).0;
  absent = by there comes told;
  read_fault = no_cause (of.read_faults old) (of.read_faults new) same (λ e. cc);
  files = files;
  write_faults = writes;
}
  where
    -- by whether it is there
    by : (there : Bool) → ComesExactly (of.answered old).absences (of.answered new).absences (SaysNone (Ok there))
        → answer ≡ answer_by name seed there
        → ComesExactly (of.answered old).absences (of.answered new).absences (answer.status ≡ status.Done)
    by false comes told = record {
      only = λ done. comes.only refl;
      always = λ more. status_is answer (made_office name seed) told;
    }
    by true comes told = record {
      only = λ done.
          let no : status.Refused ≡ status.Done = sym (status_is answer (exists name) told) ∙ done in cc;
      always = λ more. let no : SaysNone (Ok true) = comes.always more in cc;
    }
