-- The numbers of an office rise.
use Rattle.auditorium_core.proofs.Imports
use Imports.{[], All, All-cons, AllPairs-cons, Answer, AnswersWords, ap, AreCallsOn, arith, bad, Call, cases_lt, codes}
use Imports.{Command, cut_text, endorse, endorsed, endorsed_one, file_set, Files, good, HssSigns, inl, inr, IsAnswerTo}
use Imports.{IsCall, IsCallOrOther, IsCutOff, IsEndorsedAnswer, IsGivenSomehow, IsLeftSo, IsOfficeAnswer, IsOfficeIn}
use Imports.{IsSignedByNumber, IsSomeAnd, IsUsedUp, key_file, length, List, max_signed, Means, None, NumbersRise}
use Imports.{office, office_file, office_read, one_office, OnExposed, Option, ReadsUnsigned, refl, refusal_answer}
use Imports.{refused_answer, same_Some, SetsSome, short_signature, signature_file, signs_well, Some, sym, take}
use Imports.{take_all, Unsigned, unsigned_parts, UsesNumber, with_next, ℕ, ◌+◌, ◌<◌, ◌∙◌, ◌∷◌, ◌≡◌, ◌≢◌, ◌≤◌, ◌⊎◌}
use Rattle.auditorium_core.proofs.OfficeCallsLeave.{IsLeftOfTwo, left_elsewhere, left_of_two, office_is_no_other}
use Rattle.auditorium_core.proofs.OfficeCallsLeave.{refusal_writes_none, set_whole}
use Rattle.auditorium_core.proofs.SetFiles.{same_or_not, set_elsewhere, set_here}
use Rattle.auditorium_core.proofs.{Commands.of_command, DoneCases.done_cases}
use Rattle.office_key.specs.Offices.{IsOffice, max_signatures, next_office, office_of, office_text}
use Rattle.office_key.specs.{declared.office.Office.Office, Endorsements.endorsement, Endorsements.office_public}

-- an office's file is no signature's, and none of a public key
no_signature : (name file : List ℕ) → office_file name ≢ signature_file file
no_signature name file = office_is_no_other name file (codes ".sig") refl (λ e. omega (arith, e))

no_key : (name other : List ℕ) → office_file name ≢ key_file other
no_key name other = office_is_no_other name other (codes ".key") refl (λ e. omega (arith, e))

-- what `endorse` reads of the office is the text of the office, which has a number left
read_office_in : (files : Files) (name file : List ℕ) (read : Unsigned) → ReadsUnsigned files name file read →
    IsOfficeIn files name read.office × (read.office.next < max_signatures)
read_office_in files name file read is =
    office_read (office_file name) (files (office_file name)) read.office
    (unsigned_parts name file (files (office_file name)) (files file ∷ []) read is)

-- an office with the next number has a text
next_is : (this : Option (List ℕ)) (of : Office) → IsSomeAnd this (λ bytes. IsOffice bytes of) →
    of.next < max_signatures → IsOffice (office_text (next_office of)) (next_office of)
next_is None of is left = absurd is
next_is (Some bytes) of is left = record { seed = is.seed; within = omega (arith, left); spelt = refl }

module _ (name file : List ℕ) (before after : Files) (read : Unsigned) (is : ReadsUnsigned before name file read) where
  -- the text with the next number, and the signature
  abbrev text : List ℕ
  text = office_text (next_office read.office)

  abbrev signature : List ℕ
  signature = endorsement name read.office read.bytes

  -- that text is an office's
  whole : IsOffice text (next_office read.office)
  whole =
      let (here, left) = read_office_in before name file read is in
      next_is (before (office_file name)) read.office here left

  -- where the office's file has the text, and nothing else changed
  next_set : after ≡ with_next before name read.office → IsUsedUp name file read before after
  next_set e = record { next = rw (e, set_here before (office_file name) text) whole; left = inl e }

  -- where it has a prefix
  first_set : (n : ℕ) → after ≡ file_set before (office_file name) (take n text) →
      IsCutOff name read.office before after ⊎ IsUsedUp name file read before after
  first_set n e =
      elim (cases_lt n (length text)) [
        | inl less ↦ inl (record {
          n = n;
          proper = less;
          left = e;
          refused = λ other has. cut_text text (next_office read.office) other n whole less
              (rw (e, set_here before (office_file name) (take n text)) at has);
        })
        | inr all ↦ inr (next_set (e ∙ ap (file_set before (office_file name)) (take_all n text all)))
      ]

  -- where it has the text and the signature's file a prefix of the signature
  both_set : (n : ℕ) → after ≡ file_set (with_next before name read.office) (signature_file file) (take n signature) →
      IsUsedUp name file read before after
  both_set n e =
      let other = set_elsewhere (with_next before name read.office) (signature_file file) (take n signature)
      (office_file name) (no_signature name file) in
      record { next = rw (e, other, set_here before (office_file name) text) whole; left = inr (n, e) }

  -- so the files are in one of the three states
  states : IsLeftOfTwo before (office_file name) text (signature_file file) signature after →
      IsLeftSo name file before after
  states (inl e) = inl e
  states (inr (inl (n, e))) = inr (read, is, first_set n e)
  states (inr (inr (n, e))) = inr (read, is, inr (both_set n e))

-- what `office` leaves: all as it was where the file is there, and else two files of its own
abbrev IsLeftByOffice : List ℕ → List ℕ → Files → Files → Type 0
IsLeftByOffice name seed before after =
    (after ≡ before)
    ⊎ ((before (office_file name) ≡ None)
    × IsLeftOfTwo before (office_file name) (office_text (office_of seed 0)) (key_file name) (office_public name seed)
    after)

module _ (IsDone : Command → Type 0) (call : Call) (is : IsCall IsDone call) where
  -- the files as they were and as they are
  abbrev before : Files
  before = call.before

  abbrev after : Files
  after = call.after

  -- the files of an answer were set up to some place
  abbrev AreSet : Answer → Type 0
  AreSet answer = SetsSome (Some before) answer.files (Some after)

  -- nothing was, where the answer is one without files
  none_of : (answer other : Answer) → answer ≡ other → other.files ≡ [] → AreSet answer → after ≡ before
  none_of answer other e none sets = same_Some after before (rw (ap (λ (a : Answer). a.files) e ∙ none) at sets)

  -- what follows where no file changed, and of the files that an answer of the command sets,
  -- follows of the call
  of_call : (command : Command) (L : Type 0) → IsDone command → Means call.words command → (after ≡ before → L) →
      ((answer : Answer) → IsAnswerTo command (Some before) answer → AreSet answer → L) → L
  of_call command L done means kept sets =
      done_cases IsDone call.words (IsGivenSomehow is.old) is.old is.new (λ how. L)
      (λ (risen, unwritten). kept (same unwritten.files))
      (λ (answer, gives, cut). sets answer (right answer gives.answers) (rw (is.told, is.left) at cut.files))
      (λ (unwritten, faults). kept (same unwritten.files))
      (λ how some (answer, gives, told, written). sets answer (right answer gives.answers)
      (set_whole (Some before) (Some after) answer.files (rw (is.told, is.left) at written.files))) call.how is.done
    where
      -- files that are exposed are as they were
      same : is.new.files ≡ is.old.files → after ≡ before
      same e = same_Some after before (sym is.left ∙ e ∙ is.told)

      -- an answer to the words is the command's
      right : (answer : Answer) → AnswersWords IsDone call.words (OnExposed is.old.files) answer →
          IsAnswerTo command (Some before) answer
      right answer gives =
          rw is.told at (of_command IsDone call.words (OnExposed is.old.files) command answer done means gives)

  -- what an answer of `endorse` leaves
  endorse_sets : (name file : List ℕ) (answer : Answer) → IsAnswerTo (endorse name file) (Some before) answer →
      AreSet answer → IsLeftSo name file before after
  endorse_sets name file answer (inl (refusal, gives, told)) sets =
      inl (none_of answer (refusal_answer refusal) told (refusal_writes_none refusal) sets)
  endorse_sets name file answer (inr (read, gives, of)) sets =
      states name file before after read gives
      (left_of_two before after (office_file name) (office_text (next_office read.office)) (signature_file file)
      (endorsement name read.office read.bytes) (rw of.told at sets))

  -- what a call of `endorse` leaves of the files, whatever its status
  pub endorse_leaves : (name file : List ℕ) → IsDone (endorse name file) → Means call.words (endorse name file) →
      IsLeftSo name file before after
  endorse_leaves name file done means =
      of_call (endorse name file) (IsLeftSo name file before after) done means (λ e. inl e) (endorse_sets name file)

  -- an answer of `endorsed` writes no file
  endorsed_sets : (key file signature : List ℕ) (answer : Answer) →
      IsAnswerTo (endorsed key file signature) (Some before) answer → AreSet answer → after ≡ before
  endorsed_sets key file signature answer (inl (refusal, gives, told)) sets =
      none_of answer (refusal_answer refusal) told (refusal_writes_none refusal) sets
  endorsed_sets key file signature answer (inr (read, gives, inl (well, told))) sets =
      none_of answer good told refl sets
  endorsed_sets key file signature answer (inr (read, gives, inr (badly, told))) sets =
      none_of answer bad told refl sets

  endorsed_leaves : (key file signature : List ℕ) → IsDone (endorsed key file signature) →
      Means call.words (endorsed key file signature) → after ≡ before
  endorsed_leaves key file signature done means =
      of_call (endorsed key file signature) (after ≡ before) done means (λ e. e) (endorsed_sets key file signature)

  office_sets : (name seed : List ℕ) (answer : Answer) (this : Option (List ℕ)) → before (office_file name) ≡ this →
      IsOfficeAnswer name seed this answer → AreSet answer → IsLeftByOffice name seed before after
  office_sets name seed answer None e told sets =
      inr (
        e,
        left_of_two before after (office_file name) (office_text (office_of seed 0)) (key_file name)
            (office_public name seed) (rw told at sets),
      )
  office_sets name seed answer (Some bytes) e told sets =
      inl (none_of answer (refused_answer (office_file name) 0 (codes "Exists")) told refl sets)

  office_leaves : (name seed : List ℕ) → IsDone (office name seed) → Means call.words (office name seed) →
      IsLeftByOffice name seed before after
  office_leaves name seed done means =
      of_call (office name seed) (IsLeftByOffice name seed before after) done means (λ e. inl e)
      (λ answer. office_sets name seed answer (before (office_file name)) refl)

-- the signature's file differs only where the number is used
pub signed_by_number : (name file : List ℕ) (before after : Files) → IsLeftSo name file before after →
    IsSignedByNumber name file before after
signed_by_number name file before after (inl e) differs =
    absurd (differs (ap (λ (f : Files). f (signature_file file)) e))
signed_by_number name file before after (inr (read, is, inl cut)) differs =
    absurd (differs (ap (λ (f : Files). f (signature_file file)) cut.left
    ∙ set_elsewhere before (office_file name) (take cut.n (office_text (next_office read.office))) (signature_file file)
    (λ same. no_signature name file (sym same))))
signed_by_number name file before after (inr (read, is, inr up)) differs = (read, is, up.next)

-- the bytes are of no office with a number below n
abbrev HaveAtLeast : ℕ → List ℕ → Type 0
HaveAtLeast n bytes = (of : Office) → IsOffice bytes of → n ≤ of.next

-- the office's file is there, and has no number below n
abbrev HasAtLeast : List ℕ → ℕ → Files → Type 0
HasAtLeast name n files = IsSomeAnd (files (office_file name)) (HaveAtLeast n)

-- so an office that is in it has n at least
least : (this : Option (List ℕ)) (n : ℕ) (of : Office) → IsSomeAnd this (HaveAtLeast n) →
    IsSomeAnd this (λ bytes. IsOffice bytes of) → n ≤ of.next
least None n of has is = absurd has
least (Some bytes) n of has is = has of is

-- and where one is in it that has, no number is below n
at_least : (this : Option (List ℕ)) (n : ℕ) (of : Office) → IsSomeAnd this (λ bytes. IsOffice bytes of) →
    n ≤ of.next → IsSomeAnd this (HaveAtLeast n)
at_least None n of is low = absurd is
at_least (Some bytes) n of is low =
    λ one also. omega (arith, low, ap (λ (o : Office). o.next) (one_office bytes of one is also))

module _ (name : List ℕ) (n : ℕ) (before after : Files) (has : HasAtLeast name n before) where
  -- it stays so where the file is as before
  kept : after (office_file name) ≡ before (office_file name) → HasAtLeast name n after
  kept e = rw e has

  -- a call of `endorse` keeps it
  endorse_keeps : (other file : List ℕ) → IsLeftSo other file before after → HasAtLeast name n after
  endorse_keeps other file (inl e) = kept (ap (λ (f : Files). f (office_file name)) e)
  endorse_keeps other file (inr (read, is, inl cut)) =
      elim (same_or_not (office_file name) (office_file other)) [
        | inl same ↦
            (let here = set_here before (office_file other) (take cut.n (office_text (next_office read.office))) in
            rw (same, cut.left, here) (λ of found. absurd (cut.refused of (rw (cut.left, here) found))))
        | inr differs ↦ kept (ap (λ (f : Files). f (office_file name)) cut.left
            ∙ set_elsewhere before (office_file other) (take cut.n (office_text (next_office read.office)))
            (office_file name) differs)
      ]
  endorse_keeps other file (inr (read, is, inr up)) =
      elim (same_or_not (office_file name) (office_file other)) [
        | inl same ↦
            (let low : n ≤ read.office.next =
            least (before (office_file other)) n read.office (rw same at has)
            (read_office_in before other file read is).0 in
            rw same (at_least (after (office_file other)) n (next_office read.office) up.next (omega (arith, low))))
        | inr differs ↦ kept (elsewhere other file read differs up.left)
      ]
    where
      -- another office's file is as before
      elsewhere : (other file : List ℕ) (read : Unsigned) → office_file name ≢ office_file other →
          ((after ≡ with_next before other read.office)
          ⊎ ((k : ℕ) × (after ≡ file_set (with_next before other read.office) (signature_file file)
          (take k (endorsement other read.office read.bytes))))) →
          after (office_file name) ≡ before (office_file name)
      elsewhere other file read differs (inl e) =
          ap (λ (f : Files). f (office_file name)) e
          ∙ set_elsewhere before (office_file other) (office_text (next_office read.office)) (office_file name) differs
      elsewhere other file read differs (inr (k, e)) =
          ap (λ (f : Files). f (office_file name)) e
          ∙ set_elsewhere (with_next before other read.office) (signature_file file)
          (take k (endorsement other read.office read.bytes)) (office_file name) (no_signature name file)
          ∙ set_elsewhere before (office_file other) (office_text (next_office read.office)) (office_file name) differs

  -- so does one of `office`, which overwrites no file
  office_keeps : (other seed : List ℕ) → IsLeftByOffice other seed before after → HasAtLeast name n after
  office_keeps other seed (inl e) = kept (ap (λ (f : Files). f (office_file name)) e)
  office_keeps other seed (inr (none, left)) =
      elim (same_or_not (office_file name) (office_file other)) [
        | inl same ↦ absurd (rw (same, none) at has)
        | inr differs ↦ kept
            (left_elsewhere before after (office_file other) (office_text (office_of seed 0)) (key_file other)
            (office_public other seed) (office_file name) differs (no_key name other) left)
      ]

module _ (IsDone : Command → Type 0) (name : List ℕ) (offices : (n s : List ℕ) → IsDone (office n s))
    (endorses : (n f : List ℕ) → IsDone (endorse n f)) (checks : (k f s : List ℕ) → IsDone (endorsed k f s)) where
  -- so does every call
  call_keeps : (n : ℕ) (call : Call) → IsCallOrOther IsDone name call → HasAtLeast name n call.before →
      HasAtLeast name n call.after
  call_keeps n call (inr e) has = kept name n call.before call.after has e
  call_keeps n call (inl (is, inl (other, seed, means))) has =
      office_keeps name n call.before call.after has other seed
      (office_leaves IsDone call is other seed (offices other seed) means)
  call_keeps n call (inl (is, inr (inl (other, file, means)))) has =
      endorse_keeps name n call.before call.after has other file
      (endorse_leaves IsDone call is other file (endorses other file) means)
  call_keeps n call (inl (is, inr (inr (key, file, signature, means)))) has =
      kept name n call.before call.after has
      (ap (λ (f : Files). f (office_file name))
      (endorsed_leaves IsDone call is key file signature (checks key file signature) means))

  -- after a call that used a number the office's file has at least the next one
  used_next : (call : Call) (read : Unsigned) → UsesNumber name call read →
      HasAtLeast name (read.office.next + 1) call.after
  used_next call read uses =
      at_least (call.after (office_file name)) (read.office.next + 1) (next_office read.office) uses.next (omega arith)

  -- a later call uses a higher number
  abbrev IsHigher : Call → Call → Type 0
  IsHigher first second =
      (read again : Unsigned) → UsesNumber name first read → UsesNumber name second again →
      read.office.next < again.office.next

  -- so do all later calls
  later : (first : Call) (files : Files) (calls : List Call) →
      ((read : Unsigned) → UsesNumber name first read → HasAtLeast name (read.office.next + 1) files) →
      AreCallsOn IsDone name files calls → All (IsHigher first) calls
  later first files [] has on = λ i d within. absurd (let no : ⊥ = omega (arith, within) in no)
  later first files (second ∷ calls) has (e, is, rest) =
      let at : (read : Unsigned) → UsesNumber name first read → HasAtLeast name (read.office.next + 1) second.before =
      λ read uses. rw e (has read uses) in
      All-cons (IsHigher first) second calls
      (λ read again uses also.
      let (here, left) = read_office_in second.before name also.file again also.read_so in
      omega (arith, least (second.before (office_file name)) (read.office.next + 1) again.office (at read uses) here))
      (later first second.after calls
      (λ read uses. call_keeps (read.office.next + 1) second is (at read uses)) rest)

  -- the numbers that an office uses rise over its calls
  pub numbers_rise : (files : Files) (calls : List Call) → AreCallsOn IsDone name files calls → NumbersRise name calls
  numbers_rise files [] on = λ i j d less within. absurd (let no : ⊥ = omega (arith, less, within) in no)
  numbers_rise files (call ∷ calls) (e, is, rest) =
      AllPairs-cons IsHigher call calls (later call call.after calls (used_next call) rest)
      (numbers_rise call.after calls rest)

-- what `endorse` writes `endorsed` calls good
pub called_good : (name key file signature bytes : List ℕ) (of : Office) (answer : Answer) →
    of.next < max_signatures → length bytes ≤ max_signed →
    IsEndorsedAnswer key file signature
    (Some (office_public name of.seed) ∷ Some bytes ∷ Some (endorsement name of bytes) ∷ []) answer → answer ≡ good
called_good name key file signature bytes of answer left fits is =
    let short = short_signature k bytes s well in
    endorsed_one key file signature (Some k ∷ Some bytes ∷ Some s ∷ []) answer good is
    (inr (
      record { key = k; bytes = bytes; signature = s },
      inl (
        k,
        inr (omega (arith, short.0), refl),
        inl (bytes, inr (fits, refl), inl (s, inr (omega (arith, short.1), refl), refl)),
      ),
      inl (well, refl),
    ))
  where
    k : List ℕ
    k = office_public name of.seed

    s : List ℕ
    s = endorsement name of bytes

    -- the signature is one under the key
    well : HssSigns k bytes s
    well = signs_well name bytes of left
