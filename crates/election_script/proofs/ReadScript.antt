-- A text is read as a script exactly where it is a text of it.
use Rattle.election_script.proofs.Imports
use Imports.{[], actions_at, All, All-nil, All-push, All-same, AllPairs, and_parts, ap, append-nil, append_assoc}
use Imports.{AreCast, AreDeedsOf, arith, Bool, cases_Bool, cases_eq, Cast0, codes, count_by, count_by-le-length}
use Imports.{decimal, Deed, do_line, do_read, drop, encode_lower, eq-eqb, eqb-true, Err, false, false_from_ne_true}
use Imports.{filter, get_or, head_of, height_word, inl, inr, is_between, is_most, is_passed_over, is_supervisor}
use Imports.{IsBetween, IsBytes, IsCast, IsDeedAmong, IsDeedIn, IsDeedOf, IsHeight, IsLawful, IsLose, IsName, IsStep}
use Imports.{IsStopAt, IsTextOf, IsVersion, join_with_byte, join_with_byte-slice_split, key_line, Kind, kind_and_words}
use Imports.{kinds, leb-false, leb-true, left_from, length, length-append, length_push, line_kinds, line_of, line_word}
use Imports.{LineRead, Lines, lines_of, link_line, List, list_all, list_all-from_AllPass, log_line}
use Imports.{lose_line, machine_line, map, max_actions, max_events, max_link, max_loses, max_machines, max_steps, named}
use Imports.{nat_le, ne_eqb, Next, not, Ok, ots_word, OtsKind, rank, refl, role_word, roles_of, Script, script_from}
use Imports.{script_of, seed_line, slice_get, slice_get-get_or, slice_get_within, Some, step_line, stop_line, StopAt}
use Imports.{stopped_of, subst, sym, text_lines, true, with_deeds, words_of, ℕ, ◌+◌, ◌++◌, ◌<◌, ◌>>=◌, ◌↔◌, ◌∙◌, ◌∷◌}
use Imports.{◌≡◌, ◌≢◌, ◌≤◌}
use Rattle.election_script.proofs.Gives.{either_gives, Gives, if_gives, some_gives, then_gave, then_gives, unless_gives}
use Rattle.election_script.proofs.MachineDeeds.{are_busy, busy_back, deed_count, deeds_done, each_busy, get_busy}
use Rattle.election_script.proofs.MachineDeeds.{own_deeds, same_but_deeds, same_stops, size_busy, supervisors_busy}
use Rattle.election_script.proofs.Parts.{all_in_front, fresh, fresh_push, middle, no_pairs}
use Rattle.election_script.proofs.ReadWords.{deed_back, deed_gives, key_back, key_gives, lose_back, lose_gives}
use Rattle.election_script.proofs.ReadWords.{machine_back, machine_gives, number_back, one_gives, seed_back, seed_gives}
use Rattle.election_script.proofs.ReadWords.{step_back, step_gives, stop_back, stop_gives}
use Rattle.election_script.proofs.ScriptLines.{is_line, is_own, own_line, plain_line, script_lines, words_back}
use Rattle.election_script.proofs.{Gives.value_gives, Named.between_test, Named.IsDone, Named.kind_word}
use Rattle.election_script.specs.Left.{at_line, End, is_same_kind, Left, many, most_lines, one, some, unless_full}
use Rattle.election_script.specs.Lines.{key_read, lose_read, one_number, seed_read, step_read, stop_read}
use Rattle.election_script.specs.Reading.{cast_read, none_left, one_supervisor, script_after, version_read}
use Rattle.election_script.specs.declared.kinds.Kind.TheVariants as kind

-- ---- lines are read as what they say, kind by kind, and no others are

-- what is left to read are lines of these words
abbrev pub Tells : Left → Lines → Type 0
Tells (End n) [] = Unit {0}
Tells (Next n head left) (words ∷ lines) = (head ≡ kind_and_words words) × Tells left lines
Tells left lines = ⊥

-- the first word of a line names its kind
word_names : (k : Kind) → named line_kinds (line_word k) ≡ Some k
word_names kind.Version = refl
word_names k = refl

-- the kind of a line and the words after its first
pub head_is : (k : Kind) (args : List (List ℕ)) → kind_and_words (line_word k ∷ args) ≡ Ok (k, args)
head_is k args = rw (word_names k) refl

-- a kind is itself
self : (k : Kind) → is_same_kind k k ≡ true
self k = eq-eqb (rank k) (rank k) refl

-- the first line is of a later kind, if there is one
abbrev pub IsPast : Kind → Lines → Type 0
IsPast k [] = Unit {0}
IsPast k (words ∷ lines) = (j : Kind) × (args : List (List ℕ)) × (words ≡ line_word j ∷ args) × (rank k < rank j)

-- no line of the kind is left
many_none : {A : Type 0} (k : Kind) (read : List A → List (List ℕ) → LineRead A) (values : List A) (left : Left)
    (lines : Lines) → Tells left lines → IsPast k lines → many k read values left ≡ Ok (values, left)
many_none k read values (End n) lines tells past = refl
many_none k read values (Next n head left) [] tells past = absurd tells
many_none k read values (Next n head left) (words ∷ lines) (same, more) (j, args, is, later) =
    let other = ne_eqb (rank k) (rank j) (λ one. omega (arith, one, later)) in
    rw (same ∙ ap kind_and_words is ∙ head_is j args, other) refl

module _ {A : Type 0} (k : Kind) (line : A → List (List ℕ)) where
  -- lines that say the values stand in front of others
  abbrev pub in_front : List A → Lines → Lines
  in_front xs lines = map (λ x. line_word k ∷ drop 1 (line x)) xs ++ lines

  -- so the first is of a kind after an earlier one, where the first of the others is
  pub past : (j : Kind) (xs : List A) (lines : Lines) → rank j < rank k → IsPast j lines → IsPast j (in_front xs lines)
  past j [] lines later others = others
  past j (x ∷ xs) lines later others = (k, drop 1 (line x), refl, later)

  -- one line
  pub one_back : (read : List (List ℕ) → LineRead A) (value : A) (left : Left) (lines : Lines) →
      Tells left (in_front (value ∷ []) lines) → read (drop 1 (line value)) ≡ Ok value →
      (rest : Left) × Tells rest lines × (one k read left ≡ Ok (value, rest))
  one_back read value (End n) lines tells is = absurd tells
  one_back read value (Next n head rest) lines (same, more) is =
      (rest, more, rw (same ∙ head_is k (drop 1 (line value)), self k, is) refl)

  -- all lines, each after those in front of it
  pub many_back : (read : List A → List (List ℕ) → LineRead A) (all : List A) →
      ((before : List A) (x : A) (after : List A) → all ≡ before ++ x ∷ after →
      (read before (drop 1 (line x)) >>= unless_full k before) ≡ Ok x) → (values xs : List A) → all ≡ values ++ xs →
      (left : Left) (lines : Lines) → IsPast k lines → Tells left (in_front xs lines) →
      (rest : Left) × Tells rest lines × (many k read values left ≡ Ok (all, rest))
  many_back read all each values [] parts left lines past tells =
      (left, tells, rw (parts, append-nil values) (many_none k read values left lines tells past))
  many_back read all each values (x ∷ xs) parts (End n) lines past tells = absurd tells
  many_back read all each values (x ∷ xs) parts (Next n head left) lines past (same, more) =
      let next = parts ∙ sym (append_assoc values (x ∷ []) xs) in
      let (rest, tells, is) = many_back read all each (values ++ x ∷ []) xs next left lines past more in
      (rest, tells, rw (same ∙ head_is k (drop 1 (line x)), self k, each values x xs parts) is)

  -- at least one
  pub some_back : (read : List A → List (List ℕ) → LineRead A) (xs : List A) (left : Left) (lines : Lines) →
      0 < length xs → Tells left (in_front xs lines) → some k read [] left ≡ many k read [] left
  some_back read [] left lines any tells = absurd (omega (arith, any))
  some_back read (x ∷ xs) (End n) lines any tells = absurd tells
  some_back read (x ∷ xs) (Next n head left) lines any (same, more) =
      rw (same ∙ head_is k (drop 1 (line x)), self k) refl

  -- there is room for a value among those that there may be
  pub room : (most : ℕ) (all before after : List A) (x : A) (read : LineRead A) → most_lines k ≡ Some most →
      length all ≤ most → all ≡ before ++ x ∷ after → read ≡ Ok x → (read >>= unless_full k before) ≡ Ok x
  room most all before after x read limit few parts is =
      let size = ap length parts ∙ length-append before (x ∷ after) in
      let free : nat_le most (length before) ≡ false = false_from_ne_true (nat_le most (length before))
      (λ full. omega (arith, size, few, leb-true most (length before) full)) in
      rw (is, limit, free) refl

  -- lines whose values are read by themselves, up to as many as there may be
  pub each_back : (read : List (List ℕ) → LineRead A) (P : A → Type 0) (most : ℕ) → most_lines k ≡ Some most →
      ((x : A) → P x → read (drop 1 (line x)) ≡ Ok x) → (all : List A) → All P all → length all ≤ most →
      (left : Left) (lines : Lines) → IsPast k lines → Tells left (in_front all lines) →
      (rest : Left) × Tells rest lines × (many k (λ values. read) [] left ≡ Ok (all, rest))
  each_back read P most limit back all good few =
      many_back (λ values. read) all (λ before x after is.
      room most all before after x (read (drop 1 (line x))) limit few is (back x (middle P all before after x is good)))
      [] all refl

-- a kind has its place among the kinds
at_rank : (k : Kind) → slice_get kinds (rank k) ≡ Some k
at_rank kind.Version = refl
at_rank k = refl

-- the head of a line of the kind is that of its words
said : (k found : Kind) (words args : List (List ℕ)) → is_same_kind k found ≡ true → words ≡ args →
    Ok (found, words) ≡ kind_and_words (line_word k ∷ args)
said k found words args same are =
    let one : k ≡ found = cc (at_rank k, at_rank found, eqb-true (rank k) (rank found) same) in
    rw (are, ← one) (sym (head_is k args))

-- what is read of a numbered line is read of it
pub at_line_is : {A : Type 0} (n : ℕ) (read : LineRead A) → Gives (at_line n read) (λ a. read ≡ Ok a)
at_line_is n (Ok value) = λ a is. let same : value ≡ a = cc in ap Ok same
at_line_is n (Err why) = λ a is. cc

module _ {A : Type 0} (k : Kind) (line : A → List (List ℕ)) where
  -- lines that say the values stand in front of the rest
  abbrev AreInFront : Left → List A → Left → Type 0
  AreInFront left values rest = (lines : Lines) → Tells rest lines → Tells left (in_front k line values lines)

  -- one line
  pub one_said : (read : List (List ℕ) → LineRead A) (P : A → Type 0) →
      ((words : List (List ℕ)) → Gives (read words) (λ a. P a × (words ≡ drop 1 (line a)))) → (left : Left) →
      Gives (one k read left) (λ (a, rest). P a × AreInFront left (a ∷ []) rest)
  one_said read P each (Next n (Ok (found, words)) left) =
      if_gives (is_same_kind k found) _ _ _ (λ same.
      then_gives _ _ (λ a. P a × (words ≡ drop 1 (line a))) _ (λ a is. each words a (at_line_is n (read words) a is))
      (λ a (holds, are). value_gives _ (a, left)
      (holds, λ lines tells. (said k found words (drop 1 (line a)) same are, tells))))
  one_said read P each left = λ b is. cc

  -- lines, of which each keeps what holds of the values before
  many_from : (read : List A → List (List ℕ) → LineRead A) (Q : List A → Type 0) →
      ((values : List A) (words : List (List ℕ)) → Q values → is_most (most_lines k) (length values) ≡ false →
      Gives (read values words) (λ a. Q (values ++ a ∷ []) × (words ≡ drop 1 (line a)))) → (values : List A) →
      Q values → (left : Left) → Gives (many k read values left)
      (λ (all, rest). Q all × ((xs : List A) × (all ≡ values ++ xs) × AreInFront left xs rest))
  many_from read Q each values holds (Next n (Ok (found, words)) left) =
      either_gives (is_same_kind k found) _ _ _ (λ same.
      then_gives _ _ (λ a. Q (values ++ a ∷ []) × (words ≡ drop 1 (line a))) _
      (λ a is. then_gave (read values words) (unless_full k values) _ (λ a reads.
      unless_gives (is_most (most_lines k) (length values)) _ _ _ (λ room.
      value_gives _ a (each values words holds room a reads))) a
      (at_line_is n (read values words >>= unless_full k values) a is)) (λ a (kept, are) (all, rest) is.
      let (whole, (xs, split, front)) = many_from read Q each (values ++ a ∷ []) kept left (all, rest) is in
      let parts = split ∙ append_assoc values (a ∷ []) xs in
      (whole, (a ∷ xs, parts, λ lines tells. (said k found words (drop 1 (line a)) same are, front lines tells)))))
      (λ other. value_gives _ (values, Next n (Ok (found, words)) left)
      (holds, ([], sym (append-nil values), λ lines tells. tells)))
  many_from read Q each values holds left =
      value_gives _ (values, left) (holds, ([], sym (append-nil values), λ lines tells. tells))

  pub many_said : (read : List A → List (List ℕ) → LineRead A) (Q : List A → Type 0) →
      ((values : List A) (words : List (List ℕ)) → Q values → is_most (most_lines k) (length values) ≡ false →
      Gives (read values words) (λ a. Q (values ++ a ∷ []) × (words ≡ drop 1 (line a)))) → Q [] → (left : Left) →
      Gives (many k read [] left) (λ (all, rest). Q all × AreInFront left all rest)
  many_said read Q each holds left = λ (all, rest) is.
      let (whole, (xs, split, front)) = many_from read Q each [] holds left (all, rest) is in
      (whole, subst (λ values. AreInFront left values rest) (sym split) front)

  -- at least one
  pub some_said : (read : List A → List (List ℕ) → LineRead A) (P : List A × Left → Type 0) (left : Left) →
      Gives (many k read [] left) P → Gives (some k read [] left) P
  some_said read P (Next n (Ok (found, words)) left) all = if_gives (is_same_kind k found) _ _ _ (λ same. all)
  some_said read P left all = λ b is. cc

  -- lines whose values are read by themselves, up to as many as there may be
  pub each_said : (read : List (List ℕ) → LineRead A) (P : A → Type 0) (most : ℕ) → most_lines k ≡ Some most →
      ((words : List (List ℕ)) → Gives (read words) (λ a. P a × (words ≡ drop 1 (line a)))) → (left : Left) →
      Gives (many k (λ values. read) [] left)
      (λ (all, rest). (All P all × (length all ≤ most)) × AreInFront left all rest)
  each_said read P most limit each left =
      many_said (λ values. read) (λ all. All P all × (length all ≤ most)) (λ values words (all, few) room a is.
      let (holds, are) = each words a is in
      let free = leb-false most (length values) (ap (λ o. is_most o (length values)) (sym limit) ∙ room) in
      ((All-push P values a all holds, omega (arith, free, length_push values a)), are)) (All-nil P, omega arith) left

-- a version's line
version_back : (version : ℕ) (left : Left) (lines : Lines) → IsBetween 1 2 version →
    Tells left ((codes "version" ∷ decimal version ∷ []) ∷ lines) →
    (rest : Left) × Tells rest lines × (version_read 1 left ≡ Ok (version, rest))
version_back version (End n) lines good tells = absurd tells
version_back version (Next n head rest) lines good (same, more) =
    let is = number_back 1 2 version good (omega arith) in
    (rest, more, rw (same ∙ head_is kind.Version (decimal version ∷ []), is) refl)

-- none
version_none : (args : List (List ℕ)) (left : Left) (lines : Lines) → Tells left ((codes "seed" ∷ args) ∷ lines) →
    version_read 1 left ≡ Ok (1, left)
version_none args (End n) lines tells = absurd tells
version_none args (Next n head rest) lines (same, more) = rw (same ∙ head_is kind.Seed args) refl

-- no line
none_back : (left : Left) → Tells left [] → none_left left ≡ Ok tt
none_back (End n) tells = refl
none_back (Next n head left) tells = absurd tells

-- machines without what they are to do
abbrev idle : List Cast0 → List Cast0
idle machines = with_deeds 0 [] machines

-- their lines are those of the machines
said_of_machines : (deeds : List (ℕ × Deed)) (machines : List Cast0) →
    map machine_line (with_deeds 0 deeds machines) ≡ map machine_line machines
said_of_machines deeds machines =
    same_but_deeds (λ name role. codes "machine" ∷ name ∷ role_word role ∷ []) 0 deeds machines

-- they have nothing to do
all_idle : (machines : List Cast0) → All (λ (cast : Cast0). cast.actions ≡ []) (idle machines)
all_idle machines i cast within =
    each_busy 0 [] machines i i _ (omega arith) (slice_get-get_or (idle machines) i cast within)

-- machines are few, and each has a name of its own
abbrev AreNew : List Cast0 → Type 0
AreNew machines =
    (length machines ≤ max_machines) × All (λ (cast : Cast0). IsName cast.name) machines
    × AllPairs (λ (cast other : Cast0). cast.name ≢ other.name) machines

-- whatever they are to do
new_busy : (deeds : List (ℕ × Deed)) (machines : List Cast0) → AreNew machines → AreNew (with_deeds 0 deeds machines)
new_busy deeds machines (few, named, distinct) =
    let size = size_busy 0 deeds machines in (
      omega (arith, few, size),
      λ i x within. subst IsName (sym (get_busy 0 deeds machines i x)) (named i x (omega (arith, within, size))),
      λ i j x below within same. distinct i j x below (omega (arith, within, size))
          (sym (get_busy 0 deeds machines i x) ∙ same ∙ get_busy 0 deeds machines j x),
    )

-- a machine's line is read as it, before it has anything to do
cast_back : (before after machines : List Cast0) (cast : Cast0) → machines ≡ before ++ cast ∷ after → AreNew machines →
    All (λ (cast : Cast0). cast.actions ≡ []) machines →
    (cast_read before (cast.name ∷ role_word cast.role ∷ []) >>= unless_full kind.Machine before) ≡ Ok cast
cast_back before after machines cast is (few, named, distinct) free =
    let said = machine_back before cast.name cast.role
    (middle (λ (cast : Cast0). IsName cast.name) machines before after cast is named)
    (fresh (λ (cast : Cast0). cast.name) machines before after cast is distinct) in
    let none = middle (λ (cast : Cast0). cast.actions ≡ []) machines before after cast is free in
    let same : record { name = cast.name; role = cast.role; actions = [] } ≡ cast = grind (arith, none) in
    room kind.Machine machine_line max_machines machines before after cast _ refl few is (rw said (ap Ok same))

module _ (script : Script) (lawful : IsLawful script) (deeds : List (ℕ × Deed)) (are : AreDeedsOf script deeds) where
  -- the script's machines
  abbrev all : List Cast0
  all = script.machines

  -- their names and roles are those of the machines that were read
  roles : roles_of (idle all) ≡ roles_of all
  roles = same_but_deeds (λ name role. (name, role)) 0 [] all

  -- a stop's line is read as it, after those in front of it
  stop_is : (before after : List StopAt) (stop : StopAt) → script.stops ≡ before ++ stop ∷ after →
      (stop_read (roles_of all) (stopped_of (idle all) before) (drop 1 (stop_line all stop))
      >>= unless_full kind.Stop before) ≡ Ok stop
  stop_is before after stop is =
      let back = stop_back all lawful.machines.named lawful.machines.distinct before stop
      (all_in_front (IsStopAt all) script.stops before (stop ∷ after) is lawful.stops)
      (middle (IsStopAt all) script.stops before after stop is lawful.stops)
      (fresh (λ (stop : StopAt). stop.machine) script.stops before after stop is lawful.one_stop_each) in
      rw (same_stops [] all before, back) refl

  -- the lines of the kinds from the steps on, which are none of an earlier kind
  abbrev step_lines : Lines
  step_lines = in_front kind.Step (step_line all) script.steps []

  past_steps : (k : Kind) → rank k < 9 → IsPast k step_lines
  past_steps k early = past kind.Step (step_line all) k script.steps [] early tt

  -- from the stops on
  abbrev stop_lines : Lines
  stop_lines = in_front kind.Stop (stop_line all) script.stops step_lines

  past_stops : (k : Kind) → rank k < 8 → IsPast k stop_lines
  past_stops k early = past kind.Stop (stop_line all) k script.stops step_lines early (past_steps k (omega arith))

  -- from the lost entries on
  abbrev lose_lines : Lines
  lose_lines = in_front kind.Lose (lose_line all) script.loses stop_lines

  past_loses : (k : Kind) → rank k < 7 → IsPast k lose_lines
  past_loses k early = past kind.Lose (lose_line all) k script.loses stop_lines early (past_stops k (omega arith))

  -- from the deeds on
  abbrev do_lines : Lines
  do_lines = in_front kind.Do (do_line script.version all) deeds lose_lines

  -- the lines after the version's are read as the script
  from_seed_back : (version : ℕ × Left) → version.0 ≡ script.version →
      Tells version.1 (lines_of false script deeds) → script_after version ≡ Ok script
  from_seed_back (version, l0) stated t0 =
      let (l1, t1, seed) = one_back kind.Seed (λ octets. seed_line script) seed_read script.seed l0 _ t0
      (seed_back script.seed lawful.seed lawful.octets) in
      let (l2, t2, key) = one_back kind.Key (λ key. key_line script) key_read (script.kind, script.height) l1 _ t1
      (key_back script.kind script.height lawful.height) in
      let (l3, t3, log) = one_back kind.Log (λ log. log_line script) (one_number 1 max_events) script.log l2 _ t2
      (number_back 1 max_events script.log lawful.log (omega arith)) in
      let (l4, t4, link) = one_back kind.Link (λ link. link_line script) (one_number 1 max_link) script.link l3 _ t3
      (number_back 1 max_link script.link lawful.link (omega arith)) in
      let t4' : Tells l4 (map machine_line (idle all) ++ do_lines) = rw (said_of_machines [] all) t4 in
      let first = some_back kind.Machine machine_line cast_read (idle all) l4 do_lines
      (omega (arith, size_busy 0 [] all, lawful.machines.few.0)) t4' in
      let (l5, t5, machines) = many_back kind.Machine machine_line cast_read (idle all)
      (λ before cast after is. cast_back before after (idle all) cast is
      (new_busy [] all (lawful.machines.few.1, lawful.machines.named, lawful.machines.distinct)) (all_idle all))
      [] (idle all) refl l4 do_lines
      (past kind.Do (do_line script.version all) kind.Machine deeds lose_lines (omega arith)
      (past_loses kind.Machine (omega arith))) t4' in
      let busy = are_busy all deeds are.each in
      let (l6, t6, done) = each_back kind.Do (do_line script.version all) (do_read script.version (roles_of all))
      (IsDone script.version all) max_actions refl
      (deed_back all lawful.machines.named lawful.machines.distinct script.version lawful.version) deeds
      (deeds_done script deeds lawful are) (omega (arith, deed_count all deeds are.known busy, lawful.machines.in_all))
      l5 lose_lines (past_loses kind.Do (omega arith)) t5 in
      let (l7, t7, loses) = each_back kind.Lose (lose_line all) (lose_read (roles_of all)) (IsLose all) max_loses refl
      (lose_back all lawful.machines.named lawful.machines.distinct) script.loses lawful.loses lawful.few_loses l6
      stop_lines (past_stops kind.Lose (omega arith)) t6 in
      let (l8, t8, stops) = many_back kind.Stop (stop_line all)
      (λ stops. stop_read (roles_of all) (stopped_of (idle all) stops)) script.stops
      (λ before stop after is. stop_is before after stop is) [] script.stops refl l7 step_lines
      (past_steps kind.Stop (omega arith)) t7 in
      let (l9, t9, steps) = each_back kind.Step (step_line all) (step_read (roles_of all)) (IsStep all) max_steps refl
      (step_back all lawful.machines.named lawful.machines.distinct) script.steps lawful.steps lawful.few_steps l8 []
      tt t8 in
      let one : one_supervisor (idle all) l5 ≡ Ok tt =
      rw (supervisors_busy 0 [] all ∙ lawful.machines.supervisor) refl in
      rw (stated, seed, key, log, link, first ∙ machines, one, roles, done, loses, stops, steps, none_back l9 t9)
      (ap (λ (ms : List Cast0). Ok (record script { machines = ms })) (busy_back 0 deeds all busy))

  -- the lines of the script are read as it
  pub script_back : (told : Bool) → (told ≡ false → script.version ≡ 1) → (left : Left) →
      Tells left (lines_of told script deeds) → script_from left ≡ Ok script
  script_back true untold left tells =
      let small : IsBetween 1 2 script.version = elim lawful.version
      [ inl is ↦ (omega (arith, is), omega (arith, is)) | inr is ↦ (omega (arith, is), omega (arith, is)) ] in
      let (rest, more, is) = version_back script.version left (lines_of false script deeds) small tells in
      rw is (from_seed_back (script.version, rest) refl more)
  script_back false untold left tells =
      rw (version_none (encode_lower script.seed ∷ []) left _ tells)
      (from_seed_back (1, left) (sym (untold refl)) tells)

-- ---- machines

-- one more
cast_gives : (before : List Cast0) (words : List (List ℕ)) → AreNew before →
    is_most (Some max_machines) (length before) ≡ false → Gives (cast_read before words)
    (λ cast. AreNew (before ++ cast ∷ []) × (words ≡ cast.name ∷ role_word cast.role ∷ []))
cast_gives before words (few, named, distinct) room =
    then_gives _ _ _ _ (machine_gives before words) (λ said (good, new, is).
    let cast : Cast0 = record { name = said.0; role = said.1; actions = [] } in
    let free = leb-false max_machines (length before) room in
    let most : length (before ++ cast ∷ []) ≤ max_machines = omega (arith, free, length_push before cast) in
    let names = All-push (λ (cast : Cast0). IsName cast.name) before cast named good in
    value_gives _ cast ((most, names, fresh_push (λ (cast : Cast0). cast.name) before cast distinct new), is))

module _ (version : ℕ) (machines : List Cast0) (deeds : List (ℕ × Deed)) where
  -- the machines with what they are to do
  abbrev busy : List Cast0
  busy = with_deeds 0 deeds machines

  -- each has its own deeds
  own : (place : ℕ) (cast : Cast0) → slice_get busy place ≡ Some cast → cast.actions ≡ actions_at place deeds
  own place cast at = each_busy 0 deeds machines place place cast (omega arith) at

  module _ (done : All (IsDone version busy) deeds) where
    -- the deeds are of these machines
    known : All (λ (done : ℕ × Deed). done.0 < length busy) deeds
    known k d within = let is = done k d within in slice_get_within busy _ is.0 is.1

    -- each machine may do its own
    casts : All (IsCast version busy) busy
    casts i x within =
        let cast : Cast0 = get_or busy i x in
        let at : slice_get busy i ≡ Some cast = slice_get-get_or busy i x within in
        let P : Deed → Type 0 = λ deed. IsDeedOf cast.role deed × IsDeedIn version deed × IsDeedAmong busy deed in
        All-same P cast.actions (actions_at i deeds) (own i cast at) (λ k d inside.
        let (maker, there, does, in_version, among) =
        own_deeds (λ place deed. IsDone version busy (place, deed)) i deeds done k d inside in
        let same : maker ≡ cast = cc in
        (subst (λ (c : Cast0). IsDeedOf c.role (get_or (actions_at i deeds) k d)) same does, in_version, among))

    -- the machines may be a script's
    are_cast : AreNew machines → count_by (λ (cast : Cast0). is_supervisor cast.role) machines ≡ 1 →
        length deeds ≤ max_actions → AreCast version busy
    are_cast new one most =
        let (few, named, distinct) = new_busy deeds machines new in
        let counted = count_by-le-length (λ (cast : Cast0). is_supervisor cast.role) machines in
        record {
          few = (omega (arith, one, size_busy 0 deeds machines, counted), few);
          named = named;
          distinct = distinct;
          supervisor = supervisors_busy 0 deeds machines ∙ one;
          actions = casts;
          in_all = omega (arith, deed_count busy deeds known (each_busy 0 deeds machines), most);
        }

-- ---- the whole

-- one supervisor
supervisor_is : (machines : List Cast0) (left : Left) → Gives (one_supervisor machines left)
    (λ done. count_by (λ (cast : Cast0). is_supervisor cast.role) machines ≡ 1)
supervisor_is machines left = if_gives _ _ _ _ (λ one. value_gives _ tt (eqb-true _ 1 one))

-- no line
none_is : (left : Left) → Gives (none_left left) (λ done. Tells left [])
none_is (End n) = λ done is. tt
none_is left = λ done is. cc

-- a version's line in front of the others
stated : (n : ℕ) (words : List (List ℕ)) (number : ℕ) (left : Left) → words ≡ decimal number ∷ [] → (script : Script)
    (deeds : List (ℕ × Deed)) → script.version ≡ number → Tells left (lines_of false script deeds) →
    Tells (Next n (Ok (kind.Version, words)) left) (lines_of true script deeds)
stated n words number left are script deeds same tells =
    (rw (are, ← same) (sym (head_is kind.Version (decimal script.version ∷ []))), tells)

-- the version, which may be told
version_is : (left : Left) → Gives (version_read 1 left) (λ (version, rest). IsVersion version
    × ((told : Bool) × (told ≡ false → version ≡ 1) × ((script : Script) (deeds : List (ℕ × Deed)) →
    script.version ≡ version → Tells rest (lines_of false script deeds) → Tells left (lines_of told script deeds))))
version_is (Next n (Ok (kind.Version, words)) left) =
    then_gives _ _ (λ number. IsBetween 1 2 number × (words ≡ decimal number ∷ [])) _
    (λ number is. one_gives 1 2 words number (at_line_is n (one_number 1 2 words) number is)) (λ number (between, are).
    let good : IsVersion number = elim (cases_eq number 1)
    [ inl is ↦ inl is | inr other ↦ inr (omega (arith, between, other)) ] in
    value_gives _ (number, left) (good, (true, (λ untold. cc), stated n words number left are)))
version_is left = value_gives _ (1, left) (inl refl, (false, (λ untold. refl), λ script deeds same tells. tells))

-- the script that is read is lawful, and its lines are these
abbrev pub IsSaid : Left → Bool → Script → Type 0
IsSaid left told script =
    IsLawful script × (deeds : List (ℕ × Deed)) × AreDeedsOf script deeds × Tells left (lines_of told script deeds)

after_said : (version : ℕ) → IsVersion version → (left : Left) →
    Gives (script_after (version, left)) (λ script. (script.version ≡ version) × IsSaid left false script)
after_said version good l0 =
    then_gives _ _ _ _ (one_said kind.Seed (λ seed. codes "seed" ∷ encode_lower seed ∷ []) seed_read
    (λ seed. IsBetween 1 32 (length seed) × IsBytes seed) seed_gives l0) (λ (seed, l1) ((sized, octets), seed_front).
    then_gives _ _ _ _ (one_said kind.Key (λ (key : OtsKind × ℕ). codes "key" ∷ ots_word key.0 ∷ height_word key.1 ∷ [])
    key_read (λ key. IsHeight key.1) key_gives l1) (λ ((signature, height), l2) (high, key_front).
    then_gives _ _ _ _ (one_said kind.Log (λ log. codes "log" ∷ decimal log ∷ []) (one_number 1 max_events)
    (IsBetween 1 max_events) (one_gives 1 max_events) l2) (λ (log, l3) (log_good, log_front).
    then_gives _ _ _ _ (one_said kind.Link (λ link. codes "link" ∷ decimal link ∷ []) (one_number 1 max_link)
    (IsBetween 1 max_link) (one_gives 1 max_link) l3) (λ (link, l4) (link_good, link_front).
    then_gives _ _ _ _ (some_said kind.Machine machine_line cast_read _ l4 (many_said kind.Machine machine_line
    cast_read AreNew cast_gives (omega arith, All-nil _, no_pairs (λ (cast : Cast0). cast.name)) l4))
    (λ (machines, l5) (new, machines_front). then_gives _ _ _ _ (supervisor_is machines l5) (λ one supervised.
    then_gave _ _ _ (λ (deeds, l6) deeds_are.
    let all : List Cast0 = busy version machines deeds in
    let roles : roles_of all ≡ roles_of machines = same_but_deeds (λ name role. (name, role)) 0 deeds machines in
    let ((done, few_deeds), deeds_front) = (rw roles at (each_said kind.Do (do_line version all)
    (do_read version (roles_of all)) (IsDone version all) max_actions refl (deed_gives all version good) l5))
    (deeds, l6) deeds_are in
    then_gives _ _ _ _ (rw roles at (each_said kind.Lose (lose_line all) (lose_read (roles_of all)) (IsLose all)
    max_loses refl (lose_gives all) l6)) (λ (loses, l7) ((lose, few_loses), loses_front).
    then_gives _ _ _ _ (many_said kind.Stop (stop_line all)
    (λ stops. stop_read (roles_of machines) (stopped_of machines stops))
    (λ stops. All (IsStopAt all) stops × AllPairs (λ (stop other : StopAt). stop.machine ≢ other.machine) stops)
    (λ before words (good, own) room stop is.
    let gives = rw (roles, same_stops deeds machines before) at (stop_gives all before words) in
    let ((lawful, new), are) = gives stop is in
    let places = fresh_push (λ (stop : StopAt). stop.machine) before stop own new in
    ((All-push (IsStopAt all) before stop good lawful, places), are))
    (All-nil _, no_pairs (λ (stop : StopAt). stop.machine)) l7) (λ (stops, l8) ((stop, distinct), stops_front).
    then_gives _ _ _ _ (rw roles at (each_said kind.Step (step_line all) (step_read (roles_of all)) (IsStep all)
    max_steps refl (step_gives all) l8)) (λ (steps, l9) ((step, few_steps), steps_front).
    then_gives _ _ _ _ (none_is l9) (λ ended none.
    let later : Lines = map (do_line version all) deeds ++ (map (lose_line all) loses ++ (map (stop_line all) stops
    ++ (map (step_line all) steps ++ []))) in
    let after : Tells l4 (map machine_line all ++ later) = rw (said_of_machines deeds machines)
    (machines_front later (deeds_front _ (loses_front _ (stops_front _ (steps_front [] none))))) in
    let before = seed_front _ (key_front _ (log_front _ (link_front _ after))) in
    value_gives _ _ (
      refl,
      (
        record {
          version = good;
          seed = sized;
          octets = octets;
          height = high;
          log = log_good;
          link = link_good;
          machines = are_cast version machines deeds done new supervised few_deeds;
          loses = lose;
          few_loses = few_loses;
          stops = stop;
          one_stop_each = distinct;
          steps = step;
          few_steps = few_steps;
        },
        deeds,
        record { known = known version machines deeds done; each = own version machines deeds },
        before,
      ),
    ))))))))))))

-- the lines are a script's, and may tell its version
pub script_said : (left : Left) → Gives (script_from left) (λ script. (told : Bool)
    × (told ≡ false → script.version ≡ 1) × IsSaid left told script)
script_said left = then_gives _ _ _ _ (version_is left) (λ (version, rest) (good, (told, untold, front)) script is.
    let (same, (lawful, deeds, in_order, tells)) = after_said version good rest script is in
    (told, (λ unsaid. same ∙ untold unsaid), (lawful, deeds, in_order, front script deeds same tells)))

-- ---- a text of a script is read as the script

-- a line of words is read as these
head_back : (words : List (List ℕ)) → is_own words ≡ true → head_of (line_of words) ≡ kind_and_words words
head_back words own =
    let good : is_line words ≡ true = (own_line words own).0 in
    let plain : list_all (is_between 32 126) (line_of words) ≡ true =
    list_all-from_AllPass (is_between 32 126) (line_of words)
    (λ k d within. (between_test 32 126 _).1 (plain_line words good k d within)) in
    rw (plain, words_back words good) refl

-- lines that count
abbrev is_told : List ℕ → Bool
is_told line = not (is_passed_over line)

-- words with a space between each two are joined by it
spaced : (words : List (List ℕ)) → line_of words ≡ join_with_byte 32 words
spaced [] = refl
spaced (word ∷ []) = refl
spaced (word ∷ next ∷ words) = ap (λ (rest : List ℕ). word ++ 32 ∷ rest) (spaced (next ∷ words))

-- a line is its words with a space between each two
line_is : (line : List ℕ) → line_of (words_of line) ≡ line
line_is line = spaced (words_of line) ∙ join_with_byte-slice_split 32 line

-- a head that is read is that of the line's words
words_are : (line : List ℕ) → Gives (head_of line) (λ (k, args). words_of line ≡ line_word k ∷ args)
words_are line = if_gives _ _ _ _ (λ plain. by (words_of line))
  where
    by : (words : List (List ℕ)) → Gives (kind_and_words words) (λ (k, args). words ≡ line_word k ∷ args)
    by [] = λ head is. cc
    by (word ∷ words) = then_gives _ _ _ _ (some_gives (named line_kinds word) _ _ (kind_word word))
        (λ k same. value_gives _ (k, words) (ap (λ w. w ∷ words) same))

-- a line of a kind's words is the line of these
line_is_of : (line : List ℕ) (words : List (List ℕ)) → is_own words ≡ true → head_of line ≡ kind_and_words words →
    line ≡ line_of words
line_is_of line words own is =
    let (k, args, are) = (own_line words own).1 in
    sym (line_is line) ∙ ap line_of (words_are line (k, args) (is ∙ ap kind_and_words are ∙ head_is k args) ∙ sym are)

-- the lines that count are those of the words exactly if their words are told
lines_tell : (number : ℕ) (lines : List (List ℕ)) (words : Lines) → list_all is_own words ≡ true →
    (filter is_told lines ≡ map line_of words) ↔ Tells (left_from number lines) words
lines_tell number [] [] good = (λ same. tt, λ tells. refl)
lines_tell number [] (first ∷ words) good = (λ same. cc, λ tells. absurd tells)
lines_tell number (line ∷ lines) words good = elim (cases_Bool (is_passed_over line)) [
  | inl over ↦ rw over (lines_tell (number + 1) lines words good)
  | inr other ↦ rw other (next words good (lines_tell (number + 1) lines))
]
  where
    -- the line is the next of the words
    next : (words : Lines) → list_all is_own words ≡ true → ((more : Lines) → list_all is_own more ≡ true →
        (filter is_told lines ≡ map line_of more) ↔ Tells (left_from (number + 1) lines) more) →
        (line ∷ filter is_told lines ≡ map line_of words)
        ↔ Tells (Next number (head_of line) (left_from (number + 1) lines)) words
    next [] good go = (λ same. cc, λ tells. absurd tells)
    next (words ∷ more) good go =
        let (own, others) = and_parts (is_own words) (list_all is_own more) good in (
          λ same.
              let first : line ≡ line_of words = cc in
              let rest : filter is_told lines ≡ map line_of more = cc in
              (ap head_of first ∙ head_back words own, (go more others).0 rest),
          λ (is, tells).
              let here = line_is_of line words own is in
              let rest = (go more others).1 tells in
              cc,
        )

-- a text of a script is read as it
pub text_read : (text : List ℕ) (script : Script) → IsTextOf text script → script_of text ≡ Ok script
text_read text script is =
    script_back script is.lawful is.deeds is.in_order is.told is.untold (left_from 1 (text_lines text))
    ((lines_tell 1 (text_lines text) (lines_of is.told script is.deeds)
    (script_lines is.told script is.deeds is.lawful is.in_order)).0 is.spelt)

-- what is read as a script is a text of it
pub text_said : (text : List ℕ) (script : Script) → script_of text ≡ Ok script → IsTextOf text script
text_said text script is =
    let (told, untold, (lawful, deeds, in_order, tells)) = script_said (left_from 1 (text_lines text)) script is in
    record {
      lawful = lawful;
      deeds = deeds;
      told = told;
      untold = untold;
      in_order = in_order;
      spelt = (lines_tell 1 (text_lines text) (lines_of told script deeds)
          (script_lines told script deeds lawful in_order)).1 tells;
    }

pub one_script : (text : List ℕ) (script other : Script) → IsTextOf text script → IsTextOf text other → script ≡ other
one_script text script other is also = cc (text_read text script is, text_read text other also)
