-- At most one answer to a text is right.
use Rattle.entry_format.proofs.{Forms.no_fault, Forms.one_fault, Imports.ap, Imports.arith, Imports.Entry}
use Rattle.entry_format.proofs.Imports.{EntryFault, Err, inl, inr, IsSignedText, List, Ok, Post, refl, Result, rules, ℕ}
use Rattle.entry_format.proofs.{Imports.◌<◌, Imports.◌≡◌, Imports.◌≤◌, OneEntry.one_entry}
use Rattle.entry_format.specs.{SealedEntry.SealedEntry, Unsealing.IsEntryFault, Unsealing.IsFault, Unsealing.IsValid}
use Rattle.entry_format.specs.{Unsealing.Unseals, declared.plain.EntryFault.TheVariants.BadSignature}
use Rattle.entry_format.specs.declared.plain.EntryFault.TheVariants.{OtherElection, UnknownMaker, WrongIndex}

-- nothing is below what is at most as great
below : {m n : ℕ} → n ≤ m → m < n → ⊥
below le lt = omega arith

module _ (machines : List Post) (election : List ℕ) (entry : Entry) (signature : List ℕ) where
  -- at most one fault of an entry with a signature applies
  one_entry_fault : (fault other : EntryFault) → IsEntryFault machines election entry signature fault →
      IsEntryFault machines election entry signature other → fault ≡ other
  one_entry_fault OtherElection OtherElection h k = refl
  one_entry_fault OtherElection UnknownMaker h k = absurd (h k.0)
  one_entry_fault OtherElection WrongIndex h k = absurd (h k.0)
  one_entry_fault OtherElection BadSignature h k = absurd (h k.0)
  one_entry_fault UnknownMaker OtherElection h k = absurd (k h.0)
  one_entry_fault UnknownMaker UnknownMaker h k = refl
  one_entry_fault UnknownMaker WrongIndex h k = absurd (below h.1 k.1)
  one_entry_fault UnknownMaker BadSignature h k = absurd (below h.1 k.1)
  one_entry_fault WrongIndex OtherElection h k = absurd (k h.0)
  one_entry_fault WrongIndex UnknownMaker h k = absurd (below k.1 h.1)
  one_entry_fault WrongIndex WrongIndex h k = refl
  one_entry_fault WrongIndex BadSignature h (_, _, right, _) = absurd (h.2 right)
  one_entry_fault BadSignature OtherElection h k = absurd (k h.0)
  one_entry_fault BadSignature UnknownMaker h k = absurd (below k.1 h.1)
  one_entry_fault BadSignature WrongIndex (_, _, right, _) k = absurd (k.2 right)
  one_entry_fault BadSignature BadSignature h k = refl
  one_entry_fault fault other h k = search rules

-- sealed entries with the same parts are the same
pub same_sealed : (a b : SealedEntry) → a.entry ≡ b.entry → a.signature ≡ b.signature → a.text ≡ b.text →
    a.digest ≡ b.digest → a.key ≡ b.key → a ≡ b
same_sealed a b e s t d k = λ i. record { entry = e i; signature = s i; text = t i; digest = d i; key = k i }

module _ (machines : List Post) (election text : List ℕ) where
  -- the form of a valid text
  form_of_valid : (sealed : SealedEntry) → IsValid machines election text sealed →
      IsSignedText text sealed.entry sealed.signature
  form_of_valid sealed h = rw h.of_text at h.kept.spelt

  -- a valid entry has none of the faults of an entry
  not_valid : (sealed : SealedEntry) (fault : EntryFault) → IsValid machines election text sealed →
      IsEntryFault machines election sealed.entry sealed.signature fault → ⊥
  not_valid sealed OtherElection h bad = bad h.of_election
  not_valid sealed UnknownMaker h (_, unknown) = below unknown h.maker
  not_valid sealed WrongIndex h (_, _, wrong) = wrong h.kept.index
  not_valid sealed BadSignature h (_, _, _, unsigned) = unsigned (rw h.key at h.kept.signs)
  not_valid sealed fault h bad = bad

  -- a valid text has no fault
  no_fault_of_valid : (sealed : SealedEntry) (fault : EntryFault) → IsValid machines election text sealed →
      IsFault machines election text fault → ⊥
  no_fault_of_valid sealed fault h (inl bad) =
      no_fault text fault bad (sealed.entry, sealed.signature, form_of_valid sealed h, h.kept.rising)
  no_fault_of_valid sealed fault h (inr (entry, signature, form, rises, bad)) =
      let (entries, signatures) =
      one_entry text entry sealed.entry signature sealed.signature form (form_of_valid sealed h) in
      not_valid sealed fault h (rw (entries, signatures) at bad)

  -- at most one fault of a text applies
  one_fault_of_text : (fault other : EntryFault) → IsFault machines election text fault →
      IsFault machines election text other → fault ≡ other
  one_fault_of_text fault other (inl h) (inl k) = one_fault text fault other h k
  one_fault_of_text fault other (inl h) (inr (entry, signature, form, rises, bad)) =
      absurd (no_fault text fault h (entry, signature, form, rises))
  one_fault_of_text fault other (inr (entry, signature, form, rises, bad)) (inl k) =
      absurd (no_fault text other k (entry, signature, form, rises))
  one_fault_of_text fault other (inr (entry, signature, form, rises, bad))
      (inr (entry2, signature2, form2, rises2, bad2)) =
      let (entries, signatures) = one_entry text entry2 entry signature2 signature form2 form in
      one_entry_fault machines election entry signature fault other bad (rw (entries, signatures) at bad2)

  -- at most one answer is right
  pub one_unsealing : (answer other : Result SealedEntry EntryFault) → Unseals machines election text answer →
      Unseals machines election text other → answer ≡ other
  one_unsealing (Ok sealed) (Ok other) h k =
      let (entries, signatures) =
      one_entry text sealed.entry other.entry sealed.signature other.signature (form_of_valid sealed h)
      (form_of_valid other k) in
      ap Ok (same_sealed sealed other entries signatures (cc) (cc) (cc))
  one_unsealing (Ok sealed) (Err fault) h k = absurd (no_fault_of_valid sealed fault h k)
  one_unsealing (Err fault) (Ok sealed) h k = absurd (no_fault_of_valid sealed fault k h)
  one_unsealing (Err fault) (Err other) h k = ap Err (one_fault_of_text fault other h k)
