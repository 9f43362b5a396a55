-- The machines of a script come to an honest world: the entries that they make are valid under its
-- roster.
use Rattle.honest_places.proofs.Imports
use Imports.{[], Activate, All, all_at, all_from_places, ap, arith, Authorise, body_tree, Cancel, Cast0, Closed}
use Imports.{ComesTo, Config, config_of, Contains, Deed, election_of, element_at, entry_with, enumerate_from, Event}
use Imports.{few_in_frontier, flat_map, frontier, frontier_entry, frontier_rises, greatest_stamp, held, held_was_sent}
use Imports.{history, history_of, index-signed, IsAscending, IsCast, IsDeed, IsDeedAmong, IsDeedIn, IsDeedOf, IsDigest}
use Imports.{IsEntry, IsHeight, IsHonestWorld, IsLawful, IsLegalNext, IsNextAt, IsNextOf, IsOrderly, IsOrderly-play}
use Imports.{IsOrderly-start, IsValid, key_at, key_in_roster, leaves_of, length, length-append, length-id, length-map}
use Imports.{length-sha256, length_play, length_start, List, Machine, made, map, max_actions, max_machines, may_follow}
use Imports.{MaySend, member_at, next_of, node_of_sealed, None, nth_split, Opened, Option, option_map, Override}
use Imports.{plays_are_made, Post, post_of, public_of, refl, roster_of, Script, script_configs, SealedEntry, Sent, sent}
use Imports.{sent_in, signature_small, signature_some, signed_by, signed_fits, signed_signs, Signs, slice_get}
use Imports.{slice_get_within, Some, stamps_are_few, start, Step, subst, suc, sym, TellsNext, text_of, was_sent}
use Imports.{WasSentAfter, World, zero, ℕ, ◌++◌, ◌+◌, ◌<◌, ◌^◌, ◌∙◌, ◌∷◌, ◌≡◌, ◌≤◌}

-- ---- entries that are made

-- a script's deed can be written
deed_lawful : (machines : List Cast0) (deed : Deed) → length machines ≤ max_machines →
    IsDeedAmong machines deed → IsDeed deed
deed_lawful machines Opened few is = tt
deed_lawful machines (Authorise booth session) few ((cast, at, role), (least, most)) =
    (omega (arith, few, slice_get_within machines booth cast at), omega (arith, most))
deed_lawful machines (Override session how) few (least, most) = omega (arith, most)
deed_lawful machines Closed few is = tt
deed_lawful machines (Activate session) few (least, most) = omega (arith, most)
deed_lawful machines (Cancel session) few (least, most) = omega (arith, most)
deed_lawful machines deed few is = (omega (arith, is.0.1), is.1)

-- an election has the length of a digest
length-election : (posts : List Post) → length (election_of posts) ≡ 32
unfolding election_of
length-election posts = length-sha256 _

module _ (config : Config) (k stamp : ℕ) (names : List (List ℕ)) (deed : Deed) where
  -- the digest of an entry that was made has 32 bytes
  length-digest : length (made config k stamp names deed).digest ≡ 32
  unfolding made
  length-digest = length-sha256 _

  -- an entry made with a key is valid where the maker has that key in the roster
  made_valid : IsEntry (entry_with config k stamp names deed) → length names ≤ 16384 → IsAscending names →
      IsHeight config.key.height → length config.key.id ≡ 16 → k < 2 ^ config.key.height →
      config.number < length config.roster → public_of config.key ≡ key_at config.roster config.number →
      IsValid config.roster (election_of config.roster) (made config k stamp names deed).text
      (made config k stamp names deed)
  unfolding made
  made_valid lawful few rises height id unspent there key =
      let entry = entry_with config k stamp names deed in
      let message : List ℕ = text_of (body_tree entry) in
      let public : List ℕ = public_of config.key in
      let signature : List ℕ = signed_by (record config.key { next = k }) message in
      let signs : Signs public message signature =
      signed_signs config.key.kind config.key.height config.key.id config.key.seed k message height id unspent in
      let small = signature_small public message signature signs in
      let index =
      index-signed config.key.kind config.key.height config.key.id config.key.seed k message lawful.number in
      record {
        kept = record {
          spelt = record {
            lawful = lawful;
            within = signed_fits entry signature lawful few (omega (arith, small));
            spelt = refl;
          };
          rising = rises;
          hashed = refl;
          index = (signature_some public message signature signs, index);
          signs = signs;
        };
        of_text = refl;
        of_election = refl;
        maker = there;
        key = key;
      }

-- ---- what machines may send

-- what a function of places and lines gives at a place
configs_at : (f : ℕ → Cast0 → Config) (casts : List Cast0) (n m k : ℕ) → n + m ≡ k →
    slice_get (map (λ at. f at.0 at.1) (enumerate_from n casts)) m ≡ option_map (f k) (slice_get casts m)
configs_at f [] n m k is = refl
configs_at f (cast ∷ casts) n zero k is =
    let same : n ≡ k = omega (arith, is) in ap (λ (j : ℕ). Some (f j cast)) same
configs_at f (cast ∷ casts) n (suc m) k is = configs_at f casts (n + 1) m k (omega (arith, is))

-- the script's machine at a place may send this after the history
abbrev pub MaySendAt : Script → ℕ → List (Event SealedEntry) → SealedEntry → Type 0
MaySendAt script m h e =
    (cast : Cast0) × (slice_get script.machines m ≡ Some cast) × MaySend (config_of script m cast) h e

module _ (script : Script) (next : ℕ → List (Event SealedEntry) → Option SealedEntry)
    (tells : TellsNext (script_configs script) next) where
  -- what a machine sends next it may send
  may_at : (m : ℕ) (h : List (Event SealedEntry)) (e : SealedEntry) → next m h ≡ Some e → MaySendAt script m h e
  may_at m h e is =
      by (slice_get script.machines m) refl
      (subst (λ (o : Option Config). IsNextAt o h (next m h))
      (configs_at (config_of script) script.machines 0 m m (omega arith)) (tells m h))
    where
      -- the same by whether there is a machine at the place
      by : (o : Option Cast0) → slice_get script.machines m ≡ o →
          IsNextAt (option_map (config_of script m) o) h (next m h) → MaySendAt script m h e
      by None at none = let both : Some e ≡ None = sym is ∙ none in cc
      by (Some cast) at told = (cast, at, subst (IsNextOf (config_of script m cast) h) is told)

  -- so it follows in a legal history
  next_lawful : IsLegalNext node_of_sealed next
  next_lawful m h e is = let (cast, at, may) = may_at m h e is in may_follow (config_of script m cast) h e may

-- where each machine sent no more entries than its script has actions, so did all
sums_few : (w : World SealedEntry) (casts : List Cast0) → length w ≡ length casts →
    ((m : ℕ) (a : Machine SealedEntry) (cast : Cast0) → slice_get w m ≡ Some a → slice_get casts m ≡ Some cast →
    length (sent a.history) ≤ length cast.actions) →
    length (sent_in w) ≤ length (flat_map (λ (cast : Cast0). cast.actions) casts)
sums_few [] casts count each = omega arith
sums_few (a ∷ w) [] count each = absurd (omega (arith, count))
sums_few (a ∷ w) (cast ∷ casts) count each =
    let here = each zero a cast refl refl in
    let rest = sums_few w casts (omega (arith, count)) (λ m b c at there. each (suc m) b c at there) in
    omega (arith, here, rest, length-append {A = SealedEntry}, length-append {A = Deed})

-- ---- the world of a script

module _ (script : Script) (lawful : IsLawful script) (steps : List Step) (w : World SealedEntry)
    (come : ComesTo script steps w) where
  -- its histories are legal, and what was got was sent
  orderly : IsOrderly node_of_sealed w
  orderly =
      rw come.2 (IsOrderly-play node_of_sealed come.0 script.log (next_lawful script come.0 come.1)
      (start (length script.machines)) steps (IsOrderly-start node_of_sealed (length script.machines)))

  -- it has a machine for each of the script's
  one_each : length w ≡ length script.machines
  one_each =
      ap length come.2
      ∙ length_play node_of_sealed come.0 script.log (start {T = SealedEntry} (length script.machines)) steps
      ∙ length_start SealedEntry (length script.machines)

  -- who sent an entry could send it then
  pub could_send : (m : ℕ) (past : List (Event SealedEntry)) (e : SealedEntry) (later : List (Event SealedEntry)) →
      history w m ≡ past ++ Sent e ∷ later → MaySendAt script m past e
  could_send m past e later is =
      may_at script come.0 come.1 m past e
      (plays_are_made node_of_sealed come.0 script.log (length script.machines) steps m past e later (rw come.2 at is))

  -- a machine sent no more entries than it has actions
  few_by_one : (m : ℕ) (a : Machine SealedEntry) (cast : Cast0) → slice_get w m ≡ Some a →
      slice_get script.machines m ≡ Some cast → length (sent a.history) ≤ length cast.actions
  few_by_one m a cast at there = by (length (sent a.history)) refl
    where
      -- the same by how many it sent: the last one is one of its actions
      by : (n : ℕ) → length (sent a.history) ≡ n → n ≤ length cast.actions
      by zero long = omega arith
      by (suc n) long =
          let (x, is) = element_at (sent a.history) n (omega (arith, long)) in
          let (past, later, split, count) = nth_split a.history n x is in
          let (other, stands, may) = could_send m past x later (ap history_of at ∙ split) in
          let same : other ≡ cast = (let one : Some other ≡ Some cast = sym stands ∙ there in cc) in
          let inside = slice_get_within other.actions (length (sent past)) may.deed may.action in
          omega (arith, inside, count, ap (λ (c : Cast0). length c.actions) same)

  -- all together they sent no more than 4,096 entries
  few_sent : length (sent_in w) ≤ max_actions
  few_sent = let all = lawful.machines.in_all in omega (arith, all, sums_few w script.machines one_each few_by_one)

  -- what was sent a machine could send
  was_sendable : (e : SealedEntry) → Contains (sent_in w) e →
      (past : List (Event SealedEntry)) × (s : WasSentAfter w past e) × MaySendAt script s.0 past e
  was_sendable e c =
      let (past, (m, later, is)) = was_sent w e c in (past, (m, later, is), could_send m past e later is)

  -- its digest is one
  digest_long : (e : SealedEntry) → Contains (sent_in w) e → IsDigest e.digest
  digest_long e c =
      let (past, s, (cast, at, may)) = was_sendable e c in
      ap (λ (f : SealedEntry). length f.digest) may.made
      ∙ length-digest (config_of script s.0 cast) (length (sent past))
      (1 + greatest_stamp node_of_sealed (held past)) (frontier node_of_sealed (held past)) may.deed

  -- and so are those that it names
  names_long : (e : SealedEntry) (past : List (Event SealedEntry)) → WasSentAfter w past e →
      All IsDigest (frontier node_of_sealed (held past))
  names_long e past s =
      all_from_places IsDigest (frontier node_of_sealed (held past)) (λ i name at.
      let (g, there, same) = frontier_entry node_of_sealed (held past) name
      (member_at (frontier node_of_sealed (held past)) i name at) in
      subst IsDigest same (digest_long g (held_was_sent node_of_sealed w orderly past e s g there)))

  -- each entry that was sent is valid
  valid : (e : SealedEntry) → Contains (sent_in w) e →
      IsValid (roster_of script) (election_of (roster_of script)) e.text e
  valid e c =
      let (past, s, (cast, at, may)) = was_sendable e c in
      let m : ℕ = s.0 in
      let config = config_of script m cast in
      let k = length (sent past) in
      let stamp : ℕ = 1 + greatest_stamp node_of_sealed (held past) in
      let names = frontier node_of_sealed (held past) in
      let there : m < length script.machines = slice_get_within script.machines m cast at in
      let few : length script.machines ≤ max_machines = lawful.machines.few.1 in
      let actions : IsCast script.version script.machines cast =
      all_at (IsCast script.version script.machines) script.machines m cast lawful.machines.actions at in
      let deed =
      all_at (λ d. IsDeedOf cast.role d × IsDeedIn script.version d × IsDeedAmong script.machines d) cast.actions k
      may.deed actions may.action in
      let next_stamp = (next_of node_of_sealed w orderly past e s).stamp in
      let small = stamps_are_few node_of_sealed w orderly e c in
      let unspent : k < 2 ^ script.height = may.unspent in
      let entry : IsEntry (entry_with config k stamp names may.deed) = record {
        version = lawful.version;
        election = length-election (roster_of script);
        maker = omega (arith, there, few);
        number = omega (arith, unspent, (leaves_of script.height lawful.height).1);
        stamp = omega (arith, small, few_sent, next_stamp);
        names = names_long e past s;
        deed = deed_lawful script.machines may.deed few deed.2;
        of_version = deed.1;
      } in
      let some : length names ≤ 16384 =
      (let room = may.room in let least = lawful.log.1 in omega (arith, few_in_frontier past, room, least)) in
      rw may.made (made_valid config k stamp names may.deed entry some (frontier_rises (held past)) lawful.height
      (length-id script.seed cast.name) unspent (omega (arith, there, length-map script.machines (post_of script)))
      (key_in_roster script m cast at))

  -- so the world is an honest one
  pub scripts_are_honest : IsHonestWorld (roster_of script) w
  scripts_are_honest =
      let few : length script.machines ≤ max_machines = lawful.machines.few.1 in
      record {
        one_each = one_each ∙ sym (length-map script.machines (post_of script));
        few_machines = omega (arith, few, length-map script.machines (post_of script));
        few_sent = few_sent;
        orderly = orderly;
        valid = valid;
      }
