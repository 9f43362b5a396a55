-- The files that machines wrote are read back by their names.
use Rattle.auditorium_core.proofs.Imports
use Imports.{[], All-weaker, Answer, ap, append_assoc, append_cancel_left, append_cancel_right, AreOf, AreReadBack}
use Imports.{AreRunMachines, arith, audit, Cast0, codes, Config, Contains, Contains-cons_cases, Contains-head}
use Imports.{Contains-later, Contains-map, Contains-none, Distinct, file_set, Files, get-map_from, get_or, HasLeft}
use Imports.{history, inl, inr, IsAnswerTo, IsAuditOfPlace, IsHonestOrder, IsLawful, IsLeftIn, IsSomeAnd, IsWholeIn}
use Imports.{LeaveHonestFiles, length, length-append, List, log_file, log_names, log_text, machine_log_name}
use Imports.{MachineState, map, node_of_sealed, None, Option, order, place_of, play_files, PlaysAreReadBack, Post, refl}
use Imports.{RepairsAreReadBack, roster_file, roster_name, roster_of, roster_tree, RunsAreReadBack, same_Some, Script}
use Imports.{SealedEntry, sent_in, slice_get, Some, standard, subst, suc, sym, TellsHonestReport, text_of}
use Imports.{whole_is_left, with_files, with_steps, World, world_of, written_logs, zero, ℕ, ◌++◌, ◌∙◌, ◌∷◌, ◌≡◌, ◌≢◌}
use Rattle.auditorium_core.proofs.{Pairs.same_place, SetFiles.set_elsewhere, SetFiles.set_here}
use Rattle.command_line.specs.declared.status.Status.TheVariants as status

-- ---- files that are set

-- the files after these are set, one after another
abbrev after : Files → List (List ℕ × List ℕ) → Files
after at [] = at
after at (file ∷ files) = after (file_set at file.0 file.1) files

-- setting files sets them one after another
sets : (at : Files) (written : List (List ℕ × List ℕ)) → with_files (Some at) written ≡ Some (after at written)
sets at [] = refl
sets at (file ∷ files) = sets (file_set at file.0 file.1) files

-- a file that isn't among those that are set is as it was
untouched : (at : Files) (written : List (List ℕ × List ℕ)) (name : List ℕ) →
    ((file : List ℕ × List ℕ) → Contains written file → file.0 ≢ name) → after at written name ≡ at name
untouched at [] name none = refl
untouched at (file ∷ files) name none =
    untouched (file_set at file.0 file.1) files name (λ f c. none f (Contains-later file files f c))
    ∙ set_elsewhere at file.0 file.1 name (λ e. none file (Contains-head file files) (sym e))

-- no two files have one name
abbrev AreApart : List (List ℕ × List ℕ) → Type 0
AreApart written =
    (i j : ℕ) (f g : List ℕ × List ℕ) → slice_get written i ≡ Some f → slice_get written j ≡ Some g → f.0 ≡ g.0 → i ≡ j

-- where no two files have one name, each has what was written into it
has_written : (at : Files) (written : List (List ℕ × List ℕ)) → AreApart written → (file : List ℕ × List ℕ) →
    Contains written file → after at written file.0 ≡ Some file.1
has_written at [] apart file c = absurd (Contains-none file c)
has_written at (first ∷ rest) apart file c =
    elim (Contains-cons_cases first rest file c) [
      | inl same ↦ subst (λ (f : List ℕ × List ℕ). after (file_set at first.0 first.1) rest f.0 ≡ Some f.1) same
          (untouched (file_set at first.0 first.1) rest first.0 (λ g inside e.
          (let (k, there) = place_of rest g inside in
          absurd (omega (arith, apart zero (suc k) first g refl there (sym e)))))
          ∙ set_here at first.0 first.1)
      | inr later ↦ has_written (file_set at first.0 first.1) rest
          (λ i j f g at_f at_g e. omega (arith, apart (suc i) (suc j) f g at_f at_g e)) file later
    ]

-- ---- the names of machines' files

-- no two machines have one name
abbrev HaveOwnNames : List MachineState → Type 0
HaveOwnNames machines =
    (i j : ℕ) (m n : MachineState) → slice_get machines i ≡ Some m → slice_get machines j ≡ Some n →
    m.config.name ≡ n.config.name → i ≡ j

-- where two logs' files have one name, the machines have
one_machine : (prefix a b : List ℕ) →
    prefix ++ codes "." ++ a ++ codes ".log" ≡ prefix ++ codes "." ++ b ++ codes ".log" → a ≡ b
one_machine prefix a b e =
    append_cancel_left (prefix ++ codes ".") a b
    (append_cancel_right (prefix ++ codes "." ++ a) (prefix ++ codes "." ++ b) (codes ".log") e)

-- no name before `.log` makes `roster`
no_roster : (name : List ℕ) → codes "roster" ≡ name ++ codes ".log" → ⊥
no_roster [] e = omega (arith, ap length e)
no_roster (a ∷ []) e = omega (arith, ap length e)
no_roster (a ∷ b ∷ []) e = let third = ap (λ (xs : List ℕ). get_or xs 2 0) e in omega (arith, third)
no_roster (a ∷ b ∷ c ∷ name) e = omega (arith, ap length e, length-append name (codes ".log"))

-- no log's file has the name of the roster's
not_roster : (prefix name : List ℕ) →
    prefix ++ codes ".roster" ≡ prefix ++ codes "." ++ name ++ codes ".log" → ⊥
not_roster prefix name e =
    no_roster name
    (append_cancel_left (codes ".") (codes "roster") (name ++ codes ".log")
    (append_cancel_left prefix (codes ".roster") (codes "." ++ (name ++ codes ".log"))
    (e ∙ append_assoc (prefix ++ codes ".") name (codes ".log")
    ∙ append_assoc prefix (codes ".") (name ++ codes ".log"))))

-- the name of a file
abbrev name_of_file : List ℕ × List ℕ → List ℕ
name_of_file file = file.0

-- no two files of machines with names of their own have one name
files_apart : (prefix : List ℕ) (posts : List Post) (machines : List MachineState) → HaveOwnNames machines →
    AreApart (play_files prefix posts machines)
files_apart prefix posts machines own zero zero f g at there e = refl
files_apart prefix posts machines own zero (suc j) f g at there e =
    let (m, inside, is) = get-map_from (log_file prefix) machines j g there in
    absurd (not_roster prefix m.config.name (ap name_of_file (same_Some _ _ at) ∙ e ∙ sym (ap name_of_file is)))
files_apart prefix posts machines own (suc i) zero f g at there e =
    let (m, inside, is) = get-map_from (log_file prefix) machines i f at in
    absurd (not_roster prefix m.config.name (ap name_of_file (same_Some _ _ there) ∙ sym e ∙ sym (ap name_of_file is)))
files_apart prefix posts machines own (suc i) (suc j) f g at there e =
    let (m, at_m, is) = get-map_from (log_file prefix) machines i f at in
    let (n, at_n, also) = get-map_from (log_file prefix) machines j g there in
    ap suc (own i j m n at_m at_n (one_machine prefix m.config.name n.config.name
    (ap name_of_file is ∙ e ∙ sym (ap name_of_file also))))

-- the name of each machine is that of the script's line at its place
abbrev AreNamedBy : Script → List MachineState → Type 0
AreNamedBy script machines =
    (place : ℕ) (m : MachineState) → slice_get machines place ≡ Some m →
    (cast : Cast0) × (slice_get script.machines place ≡ Some cast) × (m.config.name ≡ cast.name)

-- no two machines of a lawful script have one name
own_names : (script : Script) → IsLawful script → (machines : List MachineState) → AreNamedBy script machines →
    HaveOwnNames machines
own_names script lawful machines named i j m n at there same =
    let (c, at_c, is_c) = named i m at in
    let (d, at_d, is_d) = named j n there in
    let one : c.name ≡ d.name = sym is_c ∙ same ∙ is_d in
    same_place (λ (a b : Cast0). a.name ≢ b.name) script.machines lawful.machines.distinct i j c d at_c at_d
    (λ apart. apart one) (λ apart. apart (sym one))

-- ---- reading by name

-- logs that are read by their names are those that were written
logs_back : (at : Files) (prefix : List ℕ) (machines : List MachineState) →
    ((m : MachineState) → Contains machines m →
    at (machine_log_name prefix m) ≡ Some (log_text m.config.number m.events)) →
    map at (log_names prefix machines) ≡ written_logs machines
logs_back at prefix [] has = refl
logs_back at prefix (m ∷ machines) has =
    λ i. has m (Contains-head m machines) i
    ∷ logs_back at prefix machines (λ n c. has n (Contains-later m machines n c)) i

-- whole logs are left of their place
whole_left : (w : World SealedEntry) (file : Option (List ℕ)) → IsSomeAnd file (IsWholeIn w) →
    IsSomeAnd file (IsLeftIn w)
whole_left w None whole = whole
whole_left w (Some bytes) (machine, there, whole) =
    (machine, there, rw whole (whole_is_left machine (history w machine)))

module _ (prefix : List ℕ) (script : Script) (machines : List MachineState) (w : World SealedEntry)
    (honest : LeaveHonestFiles script machines w) (named : AreNamedBy script machines)
    (apart : Distinct node_of_sealed (sent_in w)) (before : Files) where
  -- the text of the script's roster
  abbrev text : List ℕ
  text = text_of (roster_tree (roster_of script))

  -- the files that were written, and what is there then
  abbrev written : List (List ℕ × List ℕ)
  written = play_files prefix (roster_of script) machines

  abbrev now : Files
  now = after before written

  -- the files are left of the place
  place : HasLeft script w (Some text) (written_logs machines)
  place = record {
    roster = honest.roster;
    logs = All-weaker (λ (file : Option (List ℕ)). IsSomeAnd file (IsWholeIn w)) (λ file. IsSomeAnd file (IsLeftIn w))
        (whole_left w) (written_logs machines) honest.whole;
  }

  -- each file has what was written into it
  has : (file : List ℕ × List ℕ) → Contains written file → now file.0 ≡ Some file.1
  has =
      has_written before written
      (files_apart prefix (roster_of script) machines (own_names script honest.roster.lawful machines named))

  -- the roster's file has its text
  has_roster : now (roster_name prefix) ≡ Some text
  has_roster =
      has (roster_file prefix (roster_of script))
      (Contains-head (roster_file prefix (roster_of script)) (map (log_file prefix) machines))

  -- each log's file has its text
  has_log : (m : MachineState) → Contains machines m →
      now (machine_log_name prefix m) ≡ Some (log_text m.config.number m.events)
  has_log m inside =
      has (log_file prefix m)
      (Contains-later (roster_file prefix (roster_of script)) (map (log_file prefix) machines) (log_file prefix m)
      (Contains-map (log_file prefix) machines m inside))

  -- the logs are those that were written
  logs_are : map now (log_names prefix machines) ≡ written_logs machines
  logs_are = logs_back now prefix machines has_log

  -- `audit` of them says of each rule that it is kept
  audit_back : (answer : Answer) →
      IsAnswerTo (audit (roster_name prefix) (codes "standard") (log_names prefix machines)) (Some now) answer →
      TellsHonestReport script w standard (log_names prefix machines) (written_logs machines) answer
      × (answer.status ≡ status.Done)
  audit_back answer is =
      let right : IsAuditOfPlace script w standard None (log_names prefix machines) (written_logs machines) answer =
      is.honest (Some text) None (written_logs machines) (λ i. has_roster i ∷ logs_are i) script w place in
      elim (right.honest apart) [
        | inl told ↦ (told, right.done apart refl honest.all honest.whole)
        | inr (refusal, never, told) ↦ absurd never
      ]

  -- `order` of them says what the machines held
  order_back : (x y : List ℕ) (answer : Answer) →
      IsAnswerTo (order (roster_name prefix) x y (log_names prefix machines)) (Some now) answer →
      IsHonestOrder script w x y (log_names prefix machines) (written_logs machines) answer
  order_back x y answer is =
      let here : HasLeft script w (now (roster_name prefix)) (map now (log_names prefix machines)) =
      rw (has_roster, logs_are) place in
      rw logs_are at ((is.honest script w here).honest apart)

  -- the files that were written are read back
  read_back : (files : List (List ℕ × List ℕ)) → files ≡ written →
      AreReadBack prefix script machines w (with_files (Some before) files)
  read_back files is =
      subst (AreReadBack prefix script machines w) (sym (ap (with_files (Some before)) is ∙ sets before written))
      (record { audit = audit_back; order = order_back; all = honest.all })

-- the machines of a play have the names of the script's lines
named_of_play : (script : Script) (machines : List MachineState) → AreOf script machines → AreNamedBy script machines
named_of_play script machines are place m here =
    let (cast, there, is) = are.config place m here in (
      cast,
      subst (λ (k : ℕ). slice_get script.machines k ≡ Some cast) (are.number place m here) there,
      ap (λ (c : Config). c.name) is,
    )

-- the machines of a run have the names of the script's lines
named_of_run : (script : Script) (machines : List MachineState) → AreRunMachines script machines →
    AreNamedBy script machines
named_of_run script machines are place m at =
    let (cast, there, is) = (are.each place m at).made in
    (cast, there, ap (λ (n : MachineState). n.config.name) is)

-- the files of a play are read back
pub plays_are_read_back : PlaysAreReadBack
plays_are_read_back prefix script answer is apart before =
    read_back prefix script is.machines (world_of is.machines) is.honest
    (named_of_play script is.machines is.played.are_of) apart before answer.files
    (ap (λ (a : Answer). a.files) is.told)

-- the files of a repair are read back
pub repairs_are_read_back : RepairsAreReadBack
repairs_are_read_back prefix script answer is apart before =
    read_back prefix script is.machines (world_of is.machines) is.honest
    (named_of_play (with_steps (is.mended ++ is.finished) script) is.machines is.played.are_of) apart before
    answer.files (ap (λ (a : Answer). a.files) is.told)

-- the files of a run are read back
pub runs_are_read_back : RunsAreReadBack
runs_are_read_back prefix script answer is apart before =
    read_back prefix script is.machines is.w is.honest (named_of_run script is.machines is.made) apart before
    answer.files (ap (λ (a : Answer). a.files) is.told)
