-- The command `endorse`.
use Rattle.hall_outside.specs.declared.reading.FileFault.TheVariants as file
use Rattle.command_line.specs.declared.status.Status.TheVariants as status
use Rattle.command_line.proofs.CommandProofs.{carried_out_as, contains_as, HasOneAnswer, HasStatuses, IsCompleted}
use Rattle.command_line.proofs.CommandProofs.{IsOfCommands, of_read, status_is}
use Rattle.command_line.proofs.SameOr.{one_or}
use Rattle.office_commands.proofs.FileSteps.{one_bytes, one_last, one_of_files, read_completed}
use Rattle.office_commands.proofs.Imports.{[], All-from_recursion, Answer, ap, arith, AtLast, endorse_answer}
use Rattle.office_commands.proofs.Imports.{endorse_parts, Err, FileThen, GivesBytes, GivesOffice, GivesOfficeOf}
use Rattle.office_commands.proofs.Imports.{GivesUnsigned, GivesUnspent, inl, inr, IsEndorsement, IsFileRefused}
use Rattle.office_commands.proofs.Imports.{IsOffice, IsSomeAnd, List, max_signatures, max_signed, max_small, None}
use Rattle.office_commands.proofs.Imports.{Office, office_file, Ok, one_office, refl, Refusal, Result, subst, sym}
use Rattle.office_commands.proofs.Imports.{too_long, Unsigned, ℕ, ◌<◌, ◌∙◌, ◌∷◌, ◌≡◌, ◌≢◌}
use Rattle.std.proofs.Common.{Option, Some}

-- an office's file that is too long is refused as too long
pub long_office : (name : List ℕ) (this : Option (List ℕ)) → IsFileRefused max_small file.TooLong this →
    GivesOffice name this (Err (too_long name))
long_office name None is = absurd is
long_office name (Some bytes) is = inl (is, refl)

-- an office is spent or it isn't
one_unspent : (name : List ℕ) (office : Office) (p q : Result Office Refusal) → GivesUnspent name office p →
    GivesUnspent name office q → p ≡ q
one_unspent name office p q (inl (left, e)) (inl (also, f)) = e ∙ sym f
one_unspent name office p q (inl (left, e)) (inr (spent, f)) = absurd (omega (arith, left, spent))
one_unspent name office p q (inr (spent, e)) (inl (left, f)) = absurd (omega (arith, left, spent))
one_unspent name office p q (inr (spent, e)) (inr (also, f)) = e ∙ sym f

-- bytes are the text of one office
one_office_of : (name bytes : List ℕ) (p q : Result Office Refusal) → GivesOfficeOf name bytes p →
    GivesOfficeOf name bytes q → p ≡ q
one_office_of name bytes p q (inl (a, is, x)) (inl (b, also, y)) =
    let P : Office → Type 0 = λ o. GivesUnspent name o p in
    one_unspent name b p q (subst P (one_office bytes a b is also) x) y
one_office_of name bytes p q (inl (a, is, x)) (inr (none, f)) = absurd (none a is)
one_office_of name bytes p q (inr (none, e)) (inl (b, also, y)) = absurd (none b also)
one_office_of name bytes p q (inr (none, e)) (inr (also, f)) = e ∙ sym f

-- an office's file gives one answer
pub one_file : (name : List ℕ) (this : Option (List ℕ)) (p q : Result Office Refusal) → GivesOffice name this p →
    GivesOffice name this q → p ≡ q
one_file name None p q x y = x ∙ sym y
one_file name (Some bytes) p q (inl (long, e)) (inl (also, f)) = e ∙ sym f
one_file name (Some bytes) p q (inl (long, e)) (inr (short, y)) = absurd (omega (arith, long, short))
one_file name (Some bytes) p q (inr (short, x)) (inl (long, f)) = absurd (omega (arith, long, short))
one_file name (Some bytes) p q (inr (short, x)) (inr (also, y)) = one_office_of name bytes p q x y

-- an office's file and the file to be signed give one answer
pub one_unsigned : (name file : List ℕ) (files : List (Option (List ℕ))) (p q : Result Unsigned Refusal) →
    GivesUnsigned name file files p → GivesUnsigned name file files q → p ≡ q
one_unsigned name file =
    one_of_files (GivesOffice (office_file name))
    (λ office. FileThen (GivesBytes max_signed file) (λ bytes. AtLast (record { office = office; bytes = bytes })))
    (one_file (office_file name))
    (λ office. one_of_files (GivesBytes max_signed file) (λ bytes. AtLast (record { office = office; bytes = bytes }))
    (one_bytes max_signed file) (λ bytes. one_last (record { office = office; bytes = bytes })))

-- over files the command has one answer
pub endorse_one : (name file : List ℕ) → HasOneAnswer (endorse_parts name file)
endorse_one name file files a b x y =
    one_or (GivesUnsigned name file files) (IsEndorsement name file) a b (one_unsigned name file files)
    (λ read gives is also. is.told ∙ sym also.told) x y

-- `endorse` is carried out over files that are accepted
pub endorse_completed : (name file : List ℕ) → IsCompleted (endorse_parts name file)
endorse_completed name file files answer right (read, given) =
    read_completed (GivesUnsigned name file files) (IsEndorsement name file) answer read
    (one_unsigned name file files) given
    (λ found is. carried_out_as answer (endorse_answer name file found) is.told tt) right

-- `endorse` answers with one of its statuses
pub endorse_has_statuses : (name file : List ℕ) → HasStatuses (endorse_parts name file)
endorse_has_statuses name file = record {
  own = λ files answer is.
      of_read (endorse_parts name file).statuses (1, omega arith, refl) (2, omega arith, refl)
      (GivesUnsigned name file files) (IsEndorsement name file) answer
      (λ read of. contains_as (endorse_parts name file).statuses answer (endorse_answer name file read) of.told
      (0, omega arith, refl)) is;
  some = All-from_recursion IsOfCommands (endorse_parts name file).statuses (tt, (tt, (tt, tt)));
}

-- an office that is to sign has the text, and a number left
unspent_is : (name : List ℕ) (office found : Office) → GivesUnspent name office (Ok found) →
    (office ≡ found) × (found.next < max_signatures)
unspent_is name office found (inl (left, e)) =
    let same : office ≡ found = cc in
    (same, omega (arith, left, ap (λ (o : Office). o.next) same))
unspent_is name office found (inr (spent, e)) = absurd (let no : ⊥ = cc in no)

pub office_read : (name : List ℕ) (this : Option (List ℕ)) (found : Office) → GivesOffice name this (Ok found) →
    IsSomeAnd this (λ bytes. IsOffice bytes found) × (found.next < max_signatures)
office_read name None found e = absurd (let no : ⊥ = cc in no)
office_read name (Some bytes) found (inl (long, e)) = absurd (let no : ⊥ = cc in no)
office_read name (Some bytes) found (inr (short, inl (office, is, given))) =
    let (same, left) = unspent_is name office found given in
    (subst (λ (o : Office). IsOffice bytes o) same is, left)
office_read name (Some bytes) found (inr (short, inr (none, e))) = absurd (let no : ⊥ = cc in no)

-- what both files give is the office of the first with the bytes of the second
pub unsigned_parts : (name file : List ℕ) (first : Option (List ℕ)) (others : List (Option (List ℕ)))
    (read : Unsigned) → GivesUnsigned name file (first ∷ others) (Ok read) →
    GivesOffice (office_file name) first (Ok read.office)
unsigned_parts name file first [] read (inl (office, is, next)) = absurd next
unsigned_parts name file first (second ∷ []) read (inl (office, is, inl (bytes, also, e))) =
    let whole : read ≡ record { office = office; bytes = bytes } = cc in
    let P : Office → Type 0 = λ o. GivesOffice (office_file name) first (Ok o) in
    subst P (sym (ap (λ (r : Unsigned). r.office) whole)) is
unsigned_parts name file first (second ∷ third ∷ more) read (inl (office, is, inl (bytes, also, e))) = absurd e
unsigned_parts name file first (second ∷ more) read (inl (office, is, inr (refusal, also, e))) =
    absurd (let no : ⊥ = cc in no)
unsigned_parts name file first others read (inr (refusal, is, e)) = absurd (let no : ⊥ = cc in no)

-- an office that was read has a number left
pub unsigned_left : (name file : List ℕ) (files : List (Option (List ℕ))) (read : Unsigned) →
    GivesUnsigned name file files (Ok read) → read.office.next < max_signatures
unsigned_left name file [] read is = absurd is
unsigned_left name file (first ∷ others) read is =
    (office_read (office_file name) first read.office (unsigned_parts name file first others read is)).1

-- the status of an answer with a signature isn't that of an absent file
pub endorse_is_there : (name file : List ℕ) (read : Unsigned) (answer : Answer) → IsEndorsement name file read answer →
    answer.status ≢ status.Absent
endorse_is_there name file read answer is absent =
    let no : status.Done ≡ status.Absent = sym (status_is answer (endorse_answer name file read) is.told) ∙ absent in cc
