-- The words of a line are read as what they say, and no others are.
use Rattle.election_script.proofs.Imports
use Imports.{[], Act, Activate, All, and_parts, Any, ap, arith, Authorise, ballot_deed, Booth, bytes_eq}
use Imports.{bytes_eq-Decides, Cancel, Cast, Cast0, Challenge, Closed, codes, Commit, decimal, Deed, deed_words}
use Imports.{do_read, encode_lower, Err, false, false_from_ne_true, Hear, height_word, How, how_names, how_word}
use Imports.{in_table, inl, inr, is_between, is_listed, is_name_word, IsBetween, IsBytes, IsDeedIn, IsDigest, IsHeight}
use Imports.{IsLose, IsName, IsSession, IsStep, IsStopAt, IsVersion, key_heights, key_kinds, length, List, Lose}
use Imports.{max_events, name_at, named, nat_lt, not, not-false, Ok, Opened, ots_word, OtsKind, Override, refl, Result}
use Imports.{Role, role_names, role_word, roles_of, slice_get, slice_get_within, Some, Step, step_words, Stop, StopAt}
use Imports.{stopped_of, Supervisor, sym, true, true≢false, ℕ, ◌&&◌, ◌<◌, ◌^◌, ◌∙◌, ◌∷◌, ◌≡◌, ◌≢◌, ◌≤◌}
use Rattle.election_script.proofs.Gives.{Gives, if_gives, some_gives, then_after, then_gives, unless_gives, value_gives}
use Rattle.election_script.proofs.Named.{AreDistinct, AreRows, between_test, cast_at, from, has_role, HasRoleAt}
use Rattle.election_script.proofs.Named.{height_named, how_named, IsDone, IsNamedAt, kind_named, name_is, name_test}
use Rattle.election_script.proofs.Named.{place_back, place_is, place_none, place_unknown, role_named, row_is}
use Rattle.election_script.proofs.Named.{same_place, same_role, some_height, some_how, some_kind, some_role, stop_among}
use Rattle.election_script.proofs.{Named.stop_new, ScriptLines.AreNamed}
use Rattle.election_script.specs.Deeds.{machine_and_session, named_deed, override_deed, plain_deed, session_deed}
use Rattle.election_script.specs.Kinds.{deed_names, later_deeds, step_names}
use Rattle.election_script.specs.Lines.{entry_read, key_read, lose_read, machine_said, named_step, one_number, own_step}
use Rattle.election_script.specs.Lines.{receiver_read, seed_read, step_read, stop_read, stopper_read}
use Rattle.election_script.specs.Machines.{is_of_role, machine_named, machine_of_role}
use Rattle.election_script.specs.Words.{ballot_read, number_within, octets_in}
use Rattle.election_script.specs.{declared.kinds.DeedName.DeedName, declared.kinds.StepName.StepName}
use Rattle.hall_text.proofs.{DigestText.digest_decodes, Numbers.number-found}
use Rattle.hall_text.specs.Words.{digest_in, in_lower_case, number_in, value_from}
use Rattle.hex.proofs.HexLemmas.{decode_of-encode_lower, decode_of-ok, decode_sized-ok, decode_sized-twice}
use Rattle.hex.specs.{Hex.decode_of, Hex.decode_sized, declared.error.FromHexError.FromHexError}
use Rattle.std.proofs.lemmas.Option.{cond_some}
use Rattle.entry_format.specs.declared.deed.How.TheVariants as how
use Rattle.election_script.specs.declared.kinds.DeedName.TheVariants as deed
use Rattle.election_script.specs.declared.kinds.StepName.TheVariants as step

-- the digits of a number within its bounds are read as it
pub number_back : (least greatest number : ℕ) → IsBetween least greatest number → greatest < 2 ^ 32 →
    number_within least greatest (decimal number) ≡ Ok number
number_back least greatest number is small =
    let most : number ≤ greatest = is.1 in
    rw (number-found (decimal number) number (omega arith) refl, (between_test least greatest number).1 is) refl

-- those of a ballot
ballot_back : (ballot : List ℕ) → IsDigest ballot → IsBytes ballot → ballot_read (encode_lower ballot) ≡ Ok ballot
ballot_back ballot size bytes =
    let decodes = digest_decodes (encode_lower ballot) ballot (record { size = size; bytes = bytes; digits = refl }) in
    rw (decodes, (bytes_eq-Decides (encode_lower ballot) (encode_lower ballot)).1 refl)

-- those of a seed
pub seed_back : (seed : List ℕ) → IsBetween 1 32 (length seed) → IsBytes seed →
    seed_read (encode_lower seed ∷ []) ≡ Ok seed
seed_back seed size bytes =
    let same = (bytes_eq-Decides (encode_lower seed) (encode_lower seed)).1 refl in
    rw (decode_of-encode_lower seed bytes, same, (between_test 1 32 (length seed)).1 size)

-- the words of a key
pub key_back : (kind : OtsKind) (height : ℕ) → IsHeight height →
    key_read (ots_word kind ∷ height_word height ∷ []) ≡ Ok (kind, height)
key_back kind height is = rw (some_kind kind, some_height height is) refl

-- a machine's new name and its role
pub machine_back : (machines : List Cast0) (name : List ℕ) (role : Role) → IsName name →
    (Any (λ (cast : Cast0). cast.name ≡ name) machines → ⊥) →
    machine_said (roles_of machines) (name ∷ role_word role ∷ []) ≡ Ok (name, role)
machine_back machines name role is new = rw ((name_test name).1 is, place_none machines name new, some_role role) refl

module _ (machines : List Cast0) (names : AreNamed machines) (distinct : AreDistinct machines) where
  -- each machine's name is a name
  is_name : (place : ℕ) → place < length machines → is_name_word (name_at machines place) ≡ true
  is_name place within =
      let (cast, there) = cast_at machines place within in
      (name_test (name_at machines place)).1 (rw (name_is machines place cast within) (names place cast within))

  -- and is read as the machine's place
  name_back : (place : ℕ) → place < length machines →
      machine_named (roles_of machines) (name_at machines place) ≡ Ok place
  name_back place within = rw (is_name place within, place_back machines place distinct within) refl

  -- also where a machine of its role is asked for
  role_back : (place : ℕ) (role : Role) → HasRoleAt machines role place →
      machine_of_role (roles_of machines) role (name_at machines place) ≡ Ok place
  role_back place role (cast, is, same) =
      let within = slice_get_within machines place cast is in
      rw (name_back place within, has_role machines place cast is, (same_role role cast.role).1 same)

  -- with a session
  role_session_back : (place : ℕ) (role : Role) (session : ℕ) → HasRoleAt machines role place → IsSession session →
      machine_and_session (roles_of machines) role (name_at machines place) (decimal session) ≡ Ok (place, session)
  role_session_back place role session has is =
      rw (role_back place role has, number_back 1 4294967295 session is (omega arith)) refl

  -- with a session and a ballot
  ballot_deed_back : (place session : ℕ) (ballot : List ℕ) → HasRoleAt machines Booth place →
      IsSession session × IsDigest ballot × IsBytes ballot →
      ballot_deed (roles_of machines) (name_at machines place) (decimal session ∷ encode_lower ballot ∷ [])
      ≡ Ok (place, session, ballot)
  ballot_deed_back place session ballot has (good, digest, octets) =
      rw (role_session_back place Booth session has good, ballot_back ballot digest octets) refl

  -- with a session and how it is overridden
  override_back : (place session : ℕ) (how : How) → HasRoleAt machines Supervisor place → IsSession session →
      override_deed (roles_of machines) (name_at machines place) (decimal session ∷ how_word how ∷ [])
      ≡ Ok (place, session, how)
  override_back place session how has is = rw (role_session_back place Supervisor session has is, some_how how) refl

  -- the maker and the number of an entry
  entry_back : (maker number : ℕ) → maker < length machines → number ≤ 4095 →
      entry_read (roles_of machines) (name_at machines maker) (decimal number) ≡ Ok (maker, number)
  entry_back maker number within most =
      rw (name_back maker within, number_back 0 4095 number (omega arith, most) (omega arith)) refl

  -- each deed that a machine of the script may do is read back from its line
  pub deed_back : (version : ℕ) → IsVersion version → (done : ℕ × Deed) → IsDone version machines done →
      do_read version (roles_of machines) (name_at machines done.0 ∷ deed_words version machines done.1) ≡ Ok done
  deed_back version good (place, Opened) (cast, at, own, is, _) = rw (role_back place Supervisor (cast, at, own))
  deed_back version good (place, Authorise booth session) (cast, at, own, is, among) =
      rw (role_back place Supervisor (cast, at, own), role_session_back booth Booth session among.0 among.1) refl
  deed_back version good (place, Override session how.Cast) (cast, at, own, two, among) =
      rw (two, override_back place session how.Cast (cast, at, own) among) refl
  deed_back version (inr two) (place, Override session how.Cancel) (cast, at, own, is, among) =
      rw (two, override_back place session how.Cancel (cast, at, own) among) refl
  deed_back version (inl one) (place, Override session how.Cancel) (cast, at, own, is, among) =
      rw (one, role_session_back place Supervisor session (cast, at, own) among) refl
  deed_back version good (place, Closed) (cast, at, own, is, _) = rw (role_back place Supervisor (cast, at, own))
  deed_back version good (place, Activate session) (cast, at, own, is, among) =
      rw (role_session_back place Booth session (cast, at, own) among) refl
  deed_back version good (place, Commit session ballot) (cast, at, own, is, among) =
      rw (ballot_deed_back place session ballot (cast, at, own) among) refl
  deed_back version good (place, Cast session ballot) (cast, at, own, is, among) =
      rw (ballot_deed_back place session ballot (cast, at, own) among) refl
  deed_back version good (place, Cancel session) (cast, at, own, is, among) =
      rw (role_session_back place Booth session (cast, at, own) among) refl
  deed_back version good (place, Challenge session ballot) (cast, at, own, two, among) =
      rw (two, ballot_deed_back place session ballot (cast, at, own) among) refl

  -- an entry that is lost
  pub lose_back : (lose : Lose) → IsLose machines lose →
      lose_read (roles_of machines) (name_at machines lose.from ∷ decimal lose.number ∷ name_at machines lose.to ∷ [])
      ≡ Ok lose
  lose_back lose (from_in, to_in, differ, most) =
      let other : bytes_eq (name_at machines lose.to) (name_at machines lose.from) ≡ false =
      false_from_ne_true _ (λ same. differ (same_place machines lose.from lose.to distinct from_in to_in
      (sym ((bytes_eq-Decides (name_at machines lose.to) (name_at machines lose.from)).0 same)))) in
      let entry = entry_back lose.from lose.number from_in most in
      rw (entry, is_name lose.to to_in, other, place_back machines lose.to distinct to_in)

  -- a stop of a machine that has no other
  pub stop_back : (stops : List StopAt) (stop : StopAt) → All (IsStopAt machines) stops → IsStopAt machines stop →
      (Any (λ (other : StopAt). other.machine ≡ stop.machine) stops → ⊥) →
      stop_read (roles_of machines) (stopped_of machines stops)
      (name_at machines stop.machine ∷ decimal stop.events ∷ []) ≡ Ok stop
  stop_back stops stop good (inside, most) new =
      let free = stop_new machines stops stop.machine distinct good inside new in
      let events = number_back 0 max_events stop.events (omega arith, most) (omega arith) in
      rw (is_name stop.machine inside, free, place_back machines stop.machine distinct inside, events)

  -- a step
  pub step_back : (step : Step) → IsStep machines step →
      step_read (roles_of machines) (step_words machines step) ≡ Ok step
  step_back (Act machine) is = rw (name_back machine is) refl
  step_back (Hear at from number) (at_in, from_in, most) =
      rw (name_back at at_in, entry_back from number from_in most) refl
  step_back (Stop machine) is = rw (name_back machine is) refl

-- ---- words

-- a number
decimal_is : (word : List ℕ) (n : ℕ) → number_in word ≡ Some n → word ≡ decimal n
decimal_is word n is =
    let own : List ℕ = decimal (value_from 0 word) in
    let (both, same) = cond_some (nat_lt (value_from 0 word) (2 ^ 32) && bytes_eq word own) (value_from 0 word) n is in
    (bytes_eq-Decides word own).0 (and_parts (nat_lt (value_from 0 word) (2 ^ 32)) (bytes_eq word own) both).1
    ∙ ap decimal same

pub number_gives : (least greatest : ℕ) (word : List ℕ) → Gives (number_within least greatest word)
    (λ number. IsBetween least greatest number × (word ≡ decimal number))
number_gives least greatest word =
    then_gives _ _ (λ number. word ≡ decimal number) _ (some_gives (number_in word) _ _ (decimal_is word)) (λ number is.
    if_gives (is_between least greatest number) _ _ _ (λ between.
    value_gives _ number ((between_test least greatest number).0 between, is)))

-- hexadecimal digits
lower_is : (word : List ℕ) (read : Result (List ℕ) FromHexError) (octets : List ℕ) →
    in_lower_case word read ≡ Some octets → (read ≡ Ok octets) × (word ≡ encode_lower octets)
lower_is word (Ok own) octets is =
    let (equal, same) = cond_some (bytes_eq (encode_lower own) word) own octets is in
    (ap Ok same, sym ((bytes_eq-Decides (encode_lower own) word).0 equal) ∙ ap encode_lower same)
lower_is word (Err fault) octets is = cc

ballot_gives : (word : List ℕ) → Gives (ballot_read word)
    (λ ballot. IsDigest ballot × IsBytes ballot × (word ≡ encode_lower ballot))
ballot_gives word = some_gives (digest_in word) _ _ (λ ballot is.
    let (decodes, same) = lower_is word (decode_sized word 32) ballot is in
    let twice = decode_sized-ok word 32 ballot decodes in
    let octets = decode_of-ok word ballot (sym (decode_sized-twice word 32 twice) ∙ decodes) in
    (omega (arith, twice, octets.2), octets.3, same))

pub seed_gives : (words : List (List ℕ)) → Gives (seed_read words)
    (λ seed. (IsBetween 1 32 (length seed) × IsBytes seed) × (words ≡ encode_lower seed ∷ []))
seed_gives (digits ∷ []) =
    then_gives _ _ (λ seed. IsBytes seed × (digits ≡ encode_lower seed)) _ (some_gives (octets_in digits) _ _
    (λ seed is.
    let (decodes, same) = lower_is digits (decode_of digits) seed is in
    ((decode_of-ok digits seed decodes).3, same))) (λ seed (octets, is).
    if_gives (is_between 1 32 (length seed)) _ _ _ (λ between.
    value_gives _ seed (((between_test 1 32 (length seed)).0 between, octets), ap (λ word. word ∷ []) is)))
seed_gives words = λ a is. cc

-- ---- tables

pub row_gives : {A : Type 0} (P : List ℕ → A → Type 0) (rows : List (List ℕ × A)) (word : List ℕ) → AreRows P rows →
    Gives (in_table rows word) (P word)
row_gives P rows word are = some_gives (named rows word) _ (P word) (row_is P rows word are)

pub key_gives : (words : List (List ℕ)) → Gives (key_read words)
    (λ key. IsHeight key.1 × (words ≡ ots_word key.0 ∷ height_word key.1 ∷ []))
key_gives (first ∷ second ∷ []) =
    then_gives _ _ _ _ (some_gives (named key_kinds first) _ _ (kind_named first)) (λ kind is.
    then_gives _ _ _ _ (some_gives (named key_heights second) _ _ (height_named second)) (λ height (good, also).
    value_gives _ (kind, height) (good, cc)))
key_gives words = λ a is. cc

pub one_gives : (least greatest : ℕ) (words : List (List ℕ)) → Gives (one_number least greatest words)
    (λ number. IsBetween least greatest number × (words ≡ decimal number ∷ []))
one_gives least greatest (word ∷ []) = λ number is.
    let (between, same) = number_gives least greatest word number is in (between, ap (λ w. w ∷ []) same)
one_gives least greatest words = λ a is. cc

-- ---- machines

module _ (machines : List Cast0) where
  -- a place by its name
  named_gives : (name : List ℕ) → Gives (machine_named (roles_of machines) name) (IsNamedAt machines name)
  named_gives name = if_gives (is_name_word name) _ _ _ (λ good. some_gives _ _ _ (place_is machines name))

  -- the machine at the place has the role and the name
  abbrev IsMachine : Role → List ℕ → ℕ → Type 0
  IsMachine role name place = IsNamedAt machines name place × HasRoleAt machines role place

  -- a machine of a role
  role_gives : (role : Role) (name : List ℕ) →
      Gives (machine_of_role (roles_of machines) role name) (IsMachine role name)
  role_gives role name = then_gives _ _ _ _ (named_gives name) (λ place at.
      let (cast, there) = cast_at machines place at.0 in
      let listed = has_role machines place cast there in
      if_gives (is_of_role role (slice_get (roles_of machines) place)) _ _ _ (λ has.
      value_gives _ place (at, (cast, there, (same_role role cast.role).0 (sym (ap (is_of_role role) listed) ∙ has)))))

  -- a new name
  pub machine_gives : (words : List (List ℕ)) → Gives (machine_said (roles_of machines) words)
      (λ said. IsName said.0 × (Any (λ (cast : Cast0). cast.name ≡ said.0) machines → ⊥)
      × (words ≡ said.0 ∷ role_word said.1 ∷ []))
  machine_gives (name ∷ word ∷ []) =
      then_gives _ _ (λ own. IsName own × (Any (λ (cast : Cast0). cast.name ≡ own) machines → ⊥) × (name ≡ own)) _
      (unless_gives _ _ _ _ (λ good. unless_gives _ _ _ _ (λ unknown.
      value_gives _ name ((name_test name).0 (not-false _ good), place_unknown machines name unknown, refl))))
      (λ own (good, new, same). then_gives _ _ _ _
      (some_gives (named role_names word) _ _ (role_named word)) (λ role is. value_gives _ (own, role) (good, new, cc)))
  machine_gives words = λ a is. cc

  -- ---- entries

  entry_gives : (maker word : List ℕ) → Gives (entry_read (roles_of machines) maker word)
      (λ entry. IsNamedAt machines maker entry.0 × (entry.1 ≤ 4095) × (word ≡ decimal entry.1))
  entry_gives maker word = then_gives _ _ _ _ (named_gives maker) (λ place at.
      then_gives _ _ _ _ (number_gives 0 4095 word) (λ number (within, is).
      value_gives _ (place, number) (at, within.1, is)))

  receiver_gives : (maker receiver : List ℕ) → Gives (receiver_read (roles_of machines) maker receiver)
      (λ place. (receiver ≢ maker) × IsNamedAt machines receiver place)
  receiver_gives maker receiver =
      unless_gives (not (is_name_word receiver)) _ _ _ (λ good. unless_gives (bytes_eq receiver maker) _ _ _ (λ other.
      some_gives _ _ _ (λ place is. (
        λ same. true≢false (sym ((bytes_eq-Decides receiver maker).1 same) ∙ other),
        place_is machines receiver place is,
      ))))

  -- one that is lost
  pub lose_gives : (words : List (List ℕ)) → Gives (lose_read (roles_of machines) words) (λ lose. IsLose machines lose
      × (words ≡ name_at machines lose.from ∷ decimal lose.number ∷ name_at machines lose.to ∷ []))
  lose_gives (maker ∷ number ∷ receiver ∷ []) = then_gives _ _ _ _ (entry_gives maker number) (λ entry (made, most, is).
      then_gives _ _ _ _ (receiver_gives maker receiver) (λ place (differ, heard).
      let other : (entry.0 ≡ place) → ⊥ = λ same. differ (sym heard.1 ∙ ap (name_at machines) (sym same) ∙ made.1) in
      value_gives _ (record { from = entry.0; number = entry.1; to = place }) ((made.0, heard.0, other, most), cc)))
  lose_gives words = λ a is. cc

  -- ---- stops

  stopper_gives : (stops : List StopAt) (name : List ℕ) →
      Gives (stopper_read (roles_of machines) (stopped_of machines stops) name)
      (λ place. IsNamedAt machines name place × (Any (λ (stop : StopAt). stop.machine ≡ place) stops → ⊥))
  stopper_gives stops name =
      unless_gives (not (is_name_word name)) _ _ _ (λ good. unless_gives (is_listed (stopped_of machines stops) name)
      _ _ _ (λ new. some_gives _ _ _ (λ place is.
      let at = place_is machines name place is in
      let among = ap (is_listed (stopped_of machines stops)) at.1 ∙ new in
      (at, λ any. true≢false (sym (stop_among machines stops place any) ∙ among)))))

  pub stop_gives : (stops : List StopAt) (words : List (List ℕ)) →
      Gives (stop_read (roles_of machines) (stopped_of machines stops) words)
      (λ stop. (IsStopAt machines stop × (Any (λ (other : StopAt). other.machine ≡ stop.machine) stops → ⊥))
      × (words ≡ name_at machines stop.machine ∷ decimal stop.events ∷ []))
  stop_gives stops (name ∷ word ∷ []) = then_gives _ _ _ _ (stopper_gives stops name) (λ place (at, new).
      then_gives _ _ _ _ (number_gives 0 max_events word) (λ events (within, is).
      value_gives _ (record { machine = place; events = events }) (((at.0, within.1), new), cc)))
  stop_gives stops words = λ a is. cc

  -- ---- steps

  own_gives : (words : List (List ℕ)) → Gives (own_step (roles_of machines) words)
      (λ place. (place < length machines) × (words ≡ name_at machines place ∷ []))
  own_gives (name ∷ []) = λ place is.
      let (within, named) = named_gives name place is in (within, ap (λ w. w ∷ []) (sym named))
  own_gives words = λ a is. cc

  -- what the words after that of a step say
  abbrev IsStepSaid : List ℕ → StepName → Type 0
  IsStepSaid word name =
      (words : List (List ℕ)) → Gives (named_step (roles_of machines) name words)
      (λ step. IsStep machines step × (word ∷ words ≡ step_words machines step))

  hear_gives : IsStepSaid (codes "hear") step.Hear
  hear_gives (name ∷ maker ∷ number ∷ []) = then_gives _ _ _ _ (named_gives name) (λ place at.
      then_gives _ _ _ _ (entry_gives maker number) (λ entry (made, most, is).
      value_gives _ (Hear place entry.0 entry.1) ((at.0, made.0, most), cc)))
  hear_gives words = λ a is. cc

  pub step_gives : (words : List (List ℕ)) → Gives (step_read (roles_of machines) words)
      (λ step. IsStep machines step × (words ≡ step_words machines step))
  step_gives (word ∷ words) = then_gives _ _ _ _ (row_gives IsStepSaid step_names word (
    λ ws. then_gives _ _ _ _ (own_gives ws) (λ place (within, is). value_gives _ (Act place) (within, cc)),
    (
      hear_gives,
      (λ ws. then_gives _ _ _ _ (own_gives ws) (λ place (within, is). value_gives _ (Stop place) (within, cc)), tt),
    ),
  )) (λ step said. said words)
  step_gives words = λ a is. cc

  -- ---- deeds

  role_session_gives : (role : Role) (name word : List ℕ) →
      Gives (machine_and_session (roles_of machines) role name word)
      (λ read. IsMachine role name read.0 × (IsSession read.1 × (word ≡ decimal read.1)))
  role_session_gives role name word = then_gives _ _ _ _ (role_gives role name) (λ place has.
      then_gives _ _ _ _ (number_gives 1 4294967295 word) (λ session is. value_gives _ (place, session) (has, is)))

  module _ (version : ℕ) where
    -- the deed is one that the machine of the name may do, and these are its words
    abbrev IsSaid : List ℕ → List (List ℕ) → ℕ × Deed → Type 0
    IsSaid name words done =
        IsDone version machines done × (name ∷ words ≡ name_at machines done.0 ∷ deed_words version machines done.1)

    -- what the words after that of a deed say
    abbrev IsDeedSaid : List ℕ → DeedName → Type 0
    IsDeedSaid word deed =
        (name : List ℕ) (words : List (List ℕ)) → Gives (named_deed (roles_of machines) name deed words)
        (IsSaid name (word ∷ words))

    plain_gives : (role : Role) (name : List ℕ) (words : List (List ℕ)) →
        Gives (plain_deed (roles_of machines) role name words) (λ place. IsMachine role name place × (words ≡ []))
    plain_gives role name [] = λ place is. (role_gives role name place is, refl)
    plain_gives role name words = λ a is. cc

    session_gives : (role : Role) (name : List ℕ) (words : List (List ℕ)) →
        Gives (session_deed (roles_of machines) role name words)
        (λ read. IsMachine role name read.0 × (IsSession read.1 × (words ≡ decimal read.1 ∷ [])))
    session_gives role name (word ∷ []) = λ read is.
        let (has, (good, same)) = role_session_gives role name word read is in (has, (good, ap (λ w. w ∷ []) same))
    session_gives role name words = λ a is. cc

    ballot_deed_gives : (name : List ℕ) (words : List (List ℕ)) → Gives (ballot_deed (roles_of machines) name words)
        (λ read. IsMachine Booth name read.0
        × ((IsSession read.1 × IsDigest read.2 × IsBytes read.2) × (words ≡ decimal read.1 ∷ encode_lower read.2 ∷ [])))
    ballot_deed_gives name (word ∷ digits ∷ []) =
        then_gives _ _ _ _ (role_session_gives Booth name word) (λ read (has, (good, is)).
        then_gives _ _ _ _ (ballot_gives digits) (λ ballot (digest, octets, also).
        value_gives _ (read.0, read.1, ballot) (has, ((good, digest, octets), cc))))
    ballot_deed_gives name words = λ a is. cc

    authorise_is : IsDeedSaid (codes "authorise") deed.Authorise
    authorise_is name (booth ∷ word ∷ []) =
        then_after _ _ _ _ _ (role_gives Supervisor name) (λ place (at, (cast, there, own)).
        then_after _ _ _ _ _ (role_session_gives Booth booth word) (λ read ((also, holds), (good, is)).
        value_gives _ (place, Authorise read.0 read.1) ((cast, there, own, tt, (holds, good)), cc)))
    authorise_is name words = λ a is. cc

    -- the deeds of all versions, before those of one
    common : AreRows IsDeedSaid (later_deeds version) → AreRows IsDeedSaid (deed_names version)
    common later =
        let open_is : IsDeedSaid (codes "open") deed.Open = λ name words.
        then_gives _ _ _ _ (plain_gives Supervisor name words) (λ place ((at, (cast, there, own)), is).
        value_gives _ (place, Opened) ((cast, there, own, tt, tt), cc)) in
        let close_is : IsDeedSaid (codes "close") deed.Close = λ name words.
        then_gives _ _ _ _ (plain_gives Supervisor name words) (λ place ((at, (cast, there, own)), is).
        value_gives _ (place, Closed) ((cast, there, own, tt, tt), cc)) in
        let activate_is : IsDeedSaid (codes "activate") deed.Activate = λ name words.
        then_gives _ _ _ _ (session_gives Booth name words) (λ read ((at, (cast, there, own)), (good, is)).
        value_gives _ (read.0, Activate read.1) ((cast, there, own, tt, good), cc)) in
        let commit_is : IsDeedSaid (codes "commit") deed.Commit = λ name words.
        then_gives _ _ _ _ (ballot_deed_gives name words) (λ read ((at, (cast, there, own)), (good, is)).
        value_gives _ (read.0, Commit read.1 read.2) ((cast, there, own, tt, good), cc)) in
        let cast_is : IsDeedSaid (codes "cast") deed.Cast = λ name words.
        then_gives _ _ _ _ (ballot_deed_gives name words) (λ read ((at, (cast, there, own)), (good, is)).
        value_gives _ (read.0, Cast read.1 read.2) ((cast, there, own, tt, good), cc)) in
        let cancel_is : IsDeedSaid (codes "cancel") deed.Cancel = λ name words.
        then_gives _ _ _ _ (session_gives Booth name words) (λ read ((at, (cast, there, own)), (good, is)).
        value_gives _ (read.0, Cancel read.1) ((cast, there, own, tt, good), cc)) in
        (open_is, (authorise_is, (close_is, (activate_is, (commit_is, (cast_is, (cancel_is, later)))))))

  how_in_two : (session : ℕ) (how : How) → IsDeedIn 2 (Override session how)
  how_in_two session how.Cancel = tt
  how_in_two session how.Cast = refl

  override_how_is : IsDeedSaid 2 (codes "override") deed.OverrideHow
  override_how_is name (word ∷ said ∷ []) =
      then_after _ _ _ _ _ (role_session_gives Supervisor name word) (λ read ((at, (cast, there, own)), (good, is)).
      then_after _ _ _ _ _ (some_gives (named how_names said) _ _ (how_named said)) (λ how also.
      value_gives _ (read.0, Override read.1 how) ((cast, there, own, how_in_two read.1 how, good), cc)))
  override_how_is name words = λ a is. cc

  -- what a version has
  deeds_are : (version : ℕ) → IsVersion version → AreRows (IsDeedSaid version) (deed_names version)
  deeds_are version (inl one) =
      let override_is : IsDeedSaid 1 (codes "override") deed.Override = λ name words.
      then_gives _ _ _ _ (session_gives 1 Supervisor name words) (λ read ((at, (cast, there, own)), (good, is)).
      value_gives _ (read.0, Override read.1 how.Cancel) ((cast, there, own, tt, good), cc)) in
      common version (rw one (override_is, tt))
  deeds_are version (inr two) =
      let challenge_is : IsDeedSaid 2 (codes "challenge") deed.Challenge = λ name words.
      then_gives _ _ _ _ (ballot_deed_gives 2 name words) (λ read ((at, (cast, there, own)), (good, is)).
      value_gives _ (read.0, Challenge read.1 read.2) ((cast, there, own, refl, good), cc)) in
      common version (rw two (override_how_is, (challenge_is, tt)))

  pub deed_gives : (version : ℕ) → IsVersion version → (words : List (List ℕ)) →
      Gives (do_read version (roles_of machines) words)
      (λ done. IsDone version machines done × (words ≡ name_at machines done.0 ∷ deed_words version machines done.1))
  deed_gives version good (name ∷ word ∷ words) =
      then_gives _ _ _ _ (row_gives (IsDeedSaid version) (deed_names version) word (deeds_are version good))
      (λ deed said. said name words)
  deed_gives version good words = λ a is. cc
