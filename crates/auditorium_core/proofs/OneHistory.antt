-- The text of a log tells the history, and a history the machine.
use Rattle.auditorium_core.proofs.Imports
use Imports.{[], All-contains, AllPairs, ap, append_cancel_left, append_cancel_right, AreRunMachines, arith, codes}
use Imports.{config_of, Contains, Contains-head, Contains-later, entry_of, Event, flat_map, get_or, Got, header_tree}
use Imports.{IsLawful, IsRunMachine, IsStopOf, length, length-append, List, log_text, MachineState, None, Ok, one_at}
use Imports.{one_tree, one_unsealing, Option, Post, record_text, refl, Script, SealedEntry, Sent, slice_get, Some}
use Imports.{StopAt, subst, suc, sym, text_of, Unseals, zero, ℕ, ◌++◌, ◌<◌, ◌∙◌, ◌∷◌, ◌≡◌, ◌≢◌}
use Rattle.auditorium_core.proofs.Pairs.{same_member}
use Rattle.log_files.proofs.RecordTexts.{records_fit, records_spelt, tree_of}

-- ---- the events of a log

module _ (posts : List Post) (election : List ℕ) where
  -- the entry's text is its own, and valid
  abbrev IsValidly : SealedEntry → Type 0
  IsValidly e = Unseals posts election e.text (Ok e)

  -- so is that of each event
  abbrev pub AllValidly : List (Event SealedEntry) → Type 0
  AllValidly events = (x : Event SealedEntry) → Contains events x → IsValidly (entry_of x)

  -- a text is of one valid entry
  same_entry : (e f : SealedEntry) → IsValidly e → IsValidly f → e.text ≡ f.text → e ≡ f
  same_entry e f valid also same =
      let both : Ok e ≡ Ok f =
      one_unsealing posts election f.text (Ok e) (Ok f)
      (subst (λ (t : List ℕ). Unseals posts election t (Ok e)) same valid) also in
      cc

  -- what is put around a text leaves it to be told
  same_inside : (front a b : List ℕ) → front ++ (a ++ codes ")") ≡ front ++ (b ++ codes ")") → a ≡ b
  same_inside front a b same =
      append_cancel_right a b (codes ")") (append_cancel_left front (a ++ codes ")") (b ++ codes ")") same)

  -- a record is of one valid event: the second byte tells whether it was sent
  same_event : (x y : Event SealedEntry) → IsValidly (entry_of x) → IsValidly (entry_of y) →
      record_text x ≡ record_text y → x ≡ y
  same_event (Sent e) (Sent f) valid also same =
      ap Sent (same_entry e f valid also (same_inside (codes "(4:sent") e.text f.text same))
  same_event (Got e) (Got f) valid also same =
      ap Got (same_entry e f valid also (same_inside (codes "(3:got") e.text f.text same))
  same_event x y valid also same =
      let second = ap (λ (bs : List ℕ). get_or bs 1 0) same in absurd (omega (arith, second))

  -- no record is empty
  some_bytes : (x : Event SealedEntry) → 0 < length (record_text x)
  some_bytes (Sent e) = omega arith
  some_bytes (Got e) = omega arith

  -- records are of one list of valid events
  same_events : (xs ys : List (Event SealedEntry)) → AllValidly xs → AllValidly ys →
      flat_map record_text xs ≡ flat_map record_text ys → xs ≡ ys
  same_events [] [] valid also same = refl
  same_events [] (y ∷ ys) valid also same =
      absurd (omega (arith, ap length same, some_bytes y, length-append (record_text y) (flat_map record_text ys)))
  same_events (x ∷ xs) [] valid also same =
      absurd (omega (arith, ap length same, some_bytes x, length-append (record_text x) (flat_map record_text xs)))
  same_events (x ∷ xs) (y ∷ ys) valid also same =
      let first = (valid x (Contains-head x xs)).kept in
      let other = (also y (Contains-head y ys)).kept in
      let trees = one_tree 8 (tree_of x) (tree_of y) (flat_map record_text xs) (flat_map record_text ys)
      (records_fit x first) (records_fit y other)
      (ap (λ (bs : List ℕ). bs ++ flat_map record_text xs) (records_spelt x first) ∙ same
      ∙ ap (λ (bs : List ℕ). bs ++ flat_map record_text ys) (sym (records_spelt y other))) in
      let head : x ≡ y =
      same_event x y (valid x (Contains-head x xs)) (also y (Contains-head y ys))
      (sym (records_spelt x first) ∙ ap text_of trees.0 ∙ records_spelt y other) in
      let later : xs ≡ ys =
      same_events xs ys (λ z c. valid z (Contains-later x xs z c)) (λ z c. also z (Contains-later y ys z c)) trees.1 in
      λ i. head i ∷ later i

  -- the text of an owner's log is of one history
  pub same_log_events : (owner : ℕ) (xs ys : List (Event SealedEntry)) → AllValidly xs → AllValidly ys →
      log_text owner xs ≡ log_text owner ys → xs ≡ ys
  same_log_events owner xs ys valid also same =
      same_events xs ys valid also
      (append_cancel_left (text_of (header_tree owner)) (flat_map record_text xs) (flat_map record_text ys) same)

-- ---- the machines of a script

-- lists are the same where they have the same at each place
same_at_each : {X : Type 0} (xs ys : List X) → length xs ≡ length ys →
    ((i : ℕ) (x y : X) → slice_get xs i ≡ Some x → slice_get ys i ≡ Some y → x ≡ y) → xs ≡ ys
same_at_each [] [] many same = refl
same_at_each [] (y ∷ ys) many same = absurd (omega (arith, many))
same_at_each (x ∷ xs) [] many same = absurd (omega (arith, many))
same_at_each (x ∷ xs) (y ∷ ys) many same =
    let later : xs ≡ ys = same_at_each xs ys (omega (arith, many)) (λ k. same (suc k)) in
    λ i. same zero x y refl refl i ∷ later i

-- a machine with at most one stop line stops at one number, or at none
one_stop : (stops : List StopAt) → AllPairs (λ (stop other : StopAt). stop.machine ≢ other.machine) stops →
    (machine : ℕ) (a b : Option ℕ) → IsStopOf stops machine a → IsStopOf stops machine b → a ≡ b
one_stop stops one machine None None is also = refl
one_stop stops one machine None (Some k) is also =
    absurd (All-contains (λ (stop : StopAt). stop.machine ≢ machine) stops (record { machine = machine; events = k })
    is also refl)
one_stop stops one machine (Some k) None is also =
    absurd (All-contains (λ (stop : StopAt). stop.machine ≢ machine) stops (record { machine = machine; events = k })
    also is refl)
one_stop stops one machine (Some k) (Some l) is also =
    ap (λ (stop : StopAt). Some stop.events)
    (same_member (λ (stop other : StopAt). stop.machine ≢ other.machine) stops one
    (record { machine = machine; events = k }) (record { machine = machine; events = l }) is also
    (λ apart. apart refl) (λ apart. apart refl))

-- two machines at one place of a lawful script are one where their histories are
one_machine : (script : Script) → IsLawful script → (place : ℕ) (m n : MachineState) → IsRunMachine script place m →
    IsRunMachine script place n → m.events ≡ n.events → m ≡ n
one_machine script lawful place m n of also events =
    let (cast, at, is) = of.made in
    let (other, there, is') = also.made in
    let same : cast ≡ other = one_at script.machines place cast other at there in
    let stop : m.stop ≡ n.stop = one_stop script.stops lawful.one_stop_each place m.stop n.stop of.stop also.stop in
    let config : m.config ≡ n.config =
    ap (λ (u : MachineState). u.config) is ∙ ap (config_of script place) same
    ∙ sym (ap (λ (u : MachineState). u.config) is') in
    let marked : m.marked ≡ n.marked =
    ap (λ (u : MachineState). u.marked) is ∙ sym (ap (λ (u : MachineState). u.marked) is') in
    λ i. record { config = config i; stop = stop i; marked = marked i; events = events i }

-- so a lawful script's machines are those of their histories
pub same_machines : (script : Script) → IsLawful script → (ms ns : List MachineState) → AreRunMachines script ms →
    AreRunMachines script ns →
    ((place : ℕ) (m n : MachineState) → slice_get ms place ≡ Some m → slice_get ns place ≡ Some n →
    m.events ≡ n.events) → ms ≡ ns
same_machines script lawful ms ns of also events =
    same_at_each ms ns (of.count ∙ sym also.count)
    (λ place m n at there. one_machine script lawful place m n (of.each place m at) (also.each place n there)
    (events place m n at there))
