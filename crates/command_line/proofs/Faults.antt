-- The answers where what an audit goes on is refused.
use Rattle.evidence.specs.declared.fault.InputFault.TheVariants as audit
use Rattle.command_line.specs.declared.status.Status.TheVariants as status
use Rattle.command_line.proofs.Imports.{Answer, ap, cause_as, Err, Fault, IfErr, IfOk, IfOk-weaker, IfSome, inl}
use Rattle.command_line.proofs.Imports.{InputFault, inr, IsAbsent, IsAnswered, IsReadFrom, IsSomeAnd, List, no_cause}
use Rattle.command_line.proofs.Imports.{None, Ok, on_weaker, OnRead, OrRefused, refl, Refusal, refusal_answer}
use Rattle.command_line.proofs.Imports.{refusal_of, Result, stands, StoreGhosts, subst, sym, ℕ, ◌∙◌, ◌≡◌, ◌≢◌}
use Rattle.command_line.specs.declared.answer.Fault.TheVariants.{Memory, ReadFault}
use Rattle.std.proofs.Common.{Option, Some, ◌↔◌}

-- the answer of a fault is a refusal's
abbrev pub IsAnswerOfFault : InputFault → Answer → Type 0
IsAnswerOfFault fault answer = IsSomeAnd (refusal_of fault) (λ refusal. answer ≡ refusal_answer refusal)

-- the answer says that a file is absent by its status
abbrev pub IsAbsentAnswer : Answer → Type 0
IsAbsentAnswer answer = answer.status ≡ status.Absent

-- what is refused of what is read is the answer
pub refused_or : {T E : Type 0} (Gives : Result T Refusal → Type 0) (IsFor : T → Answer → Type 0) (fault : InputFault)
    (result : Result Answer E) → IfOk result (IsAnswerOfFault fault) →
    IfSome (refusal_of fault) (λ refusal. Gives (Err refusal)) → IfOk result (OrRefused Gives IsFor)
refused_or Gives IsFor fault (Ok answer) told gives = by (refusal_of fault) told gives
  where
    -- by the refusal of the fault: a fault without one has no answer
    by : (refusal : Option Refusal) → IsSomeAnd refusal (λ r. answer ≡ refusal_answer r) →
        IfSome refusal (λ r. Gives (Err r)) → OrRefused Gives IsFor answer
    by None told gives = absurd told
    by (Some r) told gives = inl (r, gives, told)
refused_or Gives IsFor fault (Err why) told gives = tt

-- the status of a refusal is Absent where its fault is
absent_status : (fault : InputFault) (answer : Answer) → IsAnswerOfFault fault answer →
    answer.status ≡ status.Absent → IsAbsent fault
absent_status (audit.Absent file) answer told is = tt
absent_status (audit.Refused file place cause) answer told is =
    let same : answer.status ≡ status.Refused = ap (λ (a : Answer). a.status) told in
    absurd (let no : status.Refused ≡ status.Absent = sym same ∙ is in cc)
absent_status audit.ReadFault answer told is = absurd told
absent_status audit.Memory answer told is = absurd told

-- and where the fault is an absence, the status is Absent
status_absent : (fault : InputFault) (answer : Answer) → IsAnswerOfFault fault answer → IsAbsent fault →
    answer.status ≡ status.Absent
status_absent (audit.Absent file) answer told is = ap (λ (a : Answer). a.status) told
status_absent (audit.Refused file place cause) answer told is = absurd is
status_absent audit.ReadFault answer told is = absurd told
status_absent audit.Memory answer told is = absurd told

-- running out of memory has no such answer
not_memory : (fault : InputFault) (answer : Answer) → IsAnswerOfFault fault answer → fault ≢ audit.Memory
not_memory fault answer told e = subst (λ f. IsAnswerOfFault f answer) e told

module _ {S T U : Type 0} (of : StoreGhosts S) (value : T → U) (names : List (List ℕ))
    (IsFound : List (Option (List ℕ)) → Result U Refusal → Type 0)
    (IsRight : List (Option (List ℕ)) → Answer → Type 0) (old new : S) where
  -- an answer that is right for the files as they were read
  abbrev pub IsRightAsRead : S → Answer → S → Type 0
  IsRightAsRead before answer after = OnRead of names (λ files. IsRight files answer) before after

  -- a refused reading is answered
  pub refused_answered : (fault : InputFault) (result : Result Answer Fault) →
      IsReadFrom of value names IsFound old (Err fault) new → IfOk result (IsAnswerOfFault fault) →
      IfErr result (λ why. (why ≡ ReadFault) ↔ (fault ≡ audit.ReadFault)) →
      ((files : List (Option (List ℕ))) (refusal : Refusal) → IsFound files (Err refusal) →
      IsRight files (refusal_answer refusal)) →
      IsAnswered of IsRightAsRead IsAbsentAnswer old result new
  refused_answered fault (Ok answer) given told why right = record {
    answer = by (refusal_of fault) told given.err;
    absent =
        let comes = given.absent (λ e. not_memory fault answer told cc) in
        record {
          only = λ is. comes.only (absent_status fault answer told is);
          always = λ more. status_absent fault answer told (comes.always more);
        };
    read_fault = no_cause (of.read_faults old) (of.read_faults new)
        (stands (of.read_faults old) (of.read_faults new) given.read_fault
        (λ e. by_fault (let is : fault ≡ audit.ReadFault = cc in is))) (λ e. cc);
    files = given.files;
    write_faults = given.write_faults;
  }
    where
      -- a failed read has no such answer
      by_fault : fault ≡ audit.ReadFault → ⊥
      by_fault e = subst (λ f. IsAnswerOfFault f answer) e told

      -- the refusal that is answered is the one that was found, and so right
      by : (refusal : Option Refusal) → IsSomeAnd refusal (λ r. answer ≡ refusal_answer r) →
          IfSome refusal (λ r. OnRead of names (λ files. IsFound files (Err r)) old new) →
          IsRightAsRead old answer new
      by None told gives = absurd told
      by (Some r) told gives =
          subst (λ a. IsRightAsRead old a new) (sym told)
          (on_weaker of names (λ files. IsFound files (Err r)) (λ files. IsRight files (refusal_answer r)) old new
          (λ files long. right files r) gives)
  refused_answered fault (Err reason) given told why right = record {
    answer = tt;
    absent = tt;
    read_fault = cause_as (of.read_faults old) (of.read_faults new)
        (λ e. ap (λ f. Err f) (why.1 (let same : fault ≡ audit.ReadFault = cc in same)))
        (λ e. ap (λ f. Err f) (why.0 (let same : reason ≡ ReadFault = cc in same))) given.read_fault;
    files = given.files;
    write_faults = given.write_faults;
  }

  -- what was found is answered without a look at the store
  pub found_answered : (found : T) (result : Result Answer Fault) →
      IsReadFrom of value names IsFound old (Ok found) new →
      IfOk result (λ answer. (files : List (Option (List ℕ))) → IsFound files (Ok (value found)) →
      IsRight files answer) →
      IfOk result (λ answer. answer.status ≢ status.Absent) → IfErr result (λ fault. fault ≡ Memory) →
      IsAnswered of IsRightAsRead IsAbsentAnswer old result new
  found_answered found (Ok answer) given right other memory = record {
    answer = on_weaker of names (λ files. IsFound files (Ok (value found))) (λ files. IsRight files answer) old new
        (λ files long. right files) given.ok.0;
    absent =
        let comes = given.absent (λ e. cc) in
        record { only = λ is. absurd (other is); always = λ more. absurd (comes.always more) };
    read_fault = no_cause (of.read_faults old) (of.read_faults new)
        (stands (of.read_faults old) (of.read_faults new) given.read_fault (λ e. cc)) (λ e. cc);
    files = given.files;
    write_faults = given.write_faults;
  }
  found_answered found (Err fault) given right other memory = record {
    answer = tt;
    absent = tt;
    read_fault = no_cause (of.read_faults old) (of.read_faults new)
        (stands (of.read_faults old) (of.read_faults new) given.read_fault (λ e. cc))
        (λ e. let no : Memory ≡ ReadFault = sym memory ∙ (let same : fault ≡ ReadFault = cc in same) in cc);
    files = given.files;
    write_faults = given.write_faults;
  }

module _ {S T U : Type 0} (of : StoreGhosts S) (value : T → U) (names : List (List ℕ))
    (Gives : List (Option (List ℕ)) → Result U Refusal → Type 0) (IsFor : U → Answer → Type 0) (old new : S) where
  -- the answer for what files give, or their refusal
  abbrev IsForFiles : List (Option (List ℕ)) → Answer → Type 0
  IsForFiles files = OrRefused (Gives files) IsFor

  -- a refusal of the files is the answer
  pub or_refused : (fault : InputFault) (result : Result Answer Fault) →
      IsReadFrom of value names Gives old (Err fault) new → IfOk result (IsAnswerOfFault fault) →
      IfErr result (λ why. (why ≡ ReadFault) ↔ (fault ≡ audit.ReadFault)) →
      IsAnswered of (IsRightAsRead of value names Gives IsForFiles old new) IsAbsentAnswer old result new
  or_refused fault result given told why =
      refused_answered of value names Gives IsForFiles old new fault result given told why
      (λ files refusal gives. inl (refusal, gives, refl))

  -- what is made of what the files gave is the answer
  pub or_answered : (found : T) (result : Result Answer Fault) → IsReadFrom of value names Gives old (Ok found) new →
      IfOk result (IsFor (value found)) → IfOk result (λ answer. answer.status ≢ status.Absent) →
      IfErr result (λ fault. fault ≡ Memory) →
      IsAnswered of (IsRightAsRead of value names Gives IsForFiles old new) IsAbsentAnswer old result new
  or_answered found result given is other memory =
      found_answered of value names Gives IsForFiles old new found result given
      (IfOk-weaker result (IsFor (value found))
      (λ answer. (files : List (Option (List ℕ))) → Gives files (Ok (value found)) → IsForFiles files answer)
      (λ answer right files gives. inr (value found, gives, right)) is) other memory
