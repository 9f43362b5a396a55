-- The script of a day, session by session, and its limits.
use Rattle.election_script.proofs.Imports
use Imports.{[], Act, actions_of, Activate, All, All-append, All-cons, All-filter, All-from_recursion, All-map, All-nil}
use Imports.{All-replicate, AllPass-from_list_all, ap, append-nil, append_assoc, AreCast, arith, authorise_of, Bool}
use Imports.{Booth, Cancel, cases_eq, Cast, Cast0, Closed, codes, Commit, concat, concat-append, cond, cond_both}
use Imports.{count_actions, count_by-le-length, Deed, deeds_of, eq-eqb, eqb-true, false, filter, filter-append}
use Imports.{flat_map, flat_map-append, get_or, get_or-range_with_len, Hear, hears, inl, inr, is_name_word, IsBoothAt}
use Imports.{IsBytes, IsCast, IsDeedAmong, IsDeedIn, IsDeedOf, IsDigest, IsLawful, IsLose, IsSession, IsStep, IsStopAt}
use Imports.{length, length-append, length-map, length-range_with_len, List, ltb-true, map, map-append, max_actions}
use Imports.{max_steps, nat_lt, ne_eqb, not, Opened, range_with_len, refl, replicate, reverse, Role, session_booth}
use Imports.{session_steps, sessions, set, Step, StopAt, subst, suc, Supervisor, supervisor, sym, take, true, u32str}
use Imports.{zero, ℕ, ◌%◌, ◌*◌, ◌++◌, ◌+◌, ◌-◌, ◌<◌, ◌==◌, ◌∙◌, ◌∷◌, ◌≡◌, ◌≤◌}
use Rattle.election_script.proofs.{Named.name_test, Parts.all_pieces, Parts.no_pairs}
use Rattle.election_script.specs.Generated.{booths, day_steps, first_number, generated, machines_of, numbers_of, others}
use Rattle.election_script.specs.Generated.{session_ballot, supervisor_actions, supervisor_steps}
use Rattle.lms_ots.proofs.Pieces.{range_with_len_next}
use Rattle.std.proofs.lemmas.List.{get_or-set_other, get_or-set_same, length-replicate, length-reverse}
use Rattle.std.proofs.lemmas.Bool.{agree_below_at}
use Rattle.std.proofs.lemmas.List.Sorted.{All-permutation, IsPermutation-reverse}
use Rattle.std.proofs.lemmas.{List.replicate_more, List.reverse-append, List.Concat.length-flat_map}
use Rattle.std.proofs.lemmas.{List.Folds.length-flat_map-take, List.Sums.length-filter, List.Sums.sum_by-le}

-- ---- one session more of a day

-- numbers from one on, with one more
pub range_more : (a i : ℕ) → a ≤ i → range_with_len a (i + 1 - a) ≡ range_with_len a (i - a) ++ i ∷ []
range_more a i h =
    let more : i + 1 - a ≡ i - a + 1 = omega arith in
    let at : a + (i - a) ≡ i = omega arith in
    rw (more, range_with_len_next a (i - a), at) refl

-- a list that goes on after a start, with one piece more
pub joined_more : {A : Type 0} (start old now tail piece tail_now : List A) → old ≡ start ++ tail → now ≡ old ++ piece
    → tail_now ≡ tail ++ piece → now ≡ start ++ tail_now
joined_more start old now tail piece tail_now e f g = rw (f, e, g) (append_assoc start tail piece)

-- what a function makes of the numbers with one more
pub each_more : {A : Type 0} (f : ℕ → A) (a i : ℕ) → a ≤ i
    → map f (range_with_len a (i + 1 - a)) ≡ map f (range_with_len a (i - a)) ++ f i ∷ []
each_more f a i h = ap (map f) (range_more a i h) ∙ map-append f (range_with_len a (i - a)) (i ∷ [])

-- what a function makes of the numbers taken backwards, with one more number below them
pub each_back : {A : Type 0} (f : ℕ → A) (number end : ℕ) → 1 ≤ number → number ≤ end
    → map f (reverse (range_with_len (number - 1) (end - (number - 1))))
    ≡ map f (reverse (range_with_len number (end - number))) ++ f (number - 1) ∷ []
each_back f number end h g =
    let rest : List ℕ = range_with_len number (end - number) in
    let more : end - (number - 1) ≡ suc (end - number) = omega arith in
    let at : number - 1 + 1 ≡ number = omega arith in
    rw (more, at, reverse-append ((number - 1) ∷ []) rest) (map-append f (reverse rest) ((number - 1) ∷ []))

-- a text with one copy more
pub copies_more : (n : ℕ) (text : List ℕ) → concat (replicate (n + 1) text) ≡ concat (replicate n text) ++ text
copies_more n text = rw (← replicate_more n text, concat-append (replicate n text) (text ∷ []), append-nil text)

-- the machines up to one, and it, do no more than all
pub count_within : (machines : List Cast0) (k : ℕ) (cast : Cast0) → k < length machines → cast ≡ get_or machines k cast
    → count_actions (take k machines) + length cast.actions ≤ count_actions machines
count_within machines k cast h is = rw is (length-flat_map-take (λ (cast : Cast0). cast.actions) machines k cast h)

-- what represents the numbers with one more
pub pieces_more : {A : Type 0} (f : ℕ → List A) (a i : ℕ) → a ≤ i
    → flat_map f (range_with_len a (i + 1 - a)) ≡ flat_map f (range_with_len a (i - a)) ++ f i
pieces_more f a i h = rw (range_more a i h, flat_map-append f (range_with_len a (i - a)) (i ∷ []), append-nil (f i))

-- what a filter keeps of one more, which it keeps or not
pub kept_more : {A : Type 0} (f : ℕ → List A) (p : ℕ → Bool) (a i : ℕ) → a ≤ i
    → flat_map f (filter p (range_with_len a (i + 1 - a)))
    ≡ flat_map f (filter p (range_with_len a (i - a))) ++ cond (p i) (f i) []
kept_more f p a i h =
    let kept : List ℕ = filter p (range_with_len a (i - a)) in
    rw (range_more a i h, filter-append p (range_with_len a (i - a)) (i ∷ []))
    (rw (flat_map-append f kept (filter p (i ∷ [])))
    (elim (p i) as (λ b. flat_map f kept ++ flat_map f (cond b (i ∷ []) []) ≡ flat_map f kept ++ cond b (f i) [])
    [ true ↦ ap (λ l. flat_map f kept ++ l) (append-nil (f i)) | false ↦ refl ]))

-- a session more, of the booth or of another
pub actions_more : (booth i : ℕ) → 1 ≤ i
    → actions_of booth (i + 1 - 1) ≡ actions_of booth (i - 1) ++ cond (session_booth i == booth) (deeds_of i) []
unfolding actions_of
actions_more booth i h = kept_more deeds_of (λ i. session_booth i == booth) 1 i h

-- the steps of a session, part by part
pub session_joined : (i booth first count : ℕ) (start a b c d : List Step) →
    booth ≡ session_booth i → first ≡ first_number i
    → count ≡ length (deeds_of i) → a ≡ start ++ supervisor_steps i → b ≡ a ++ replicate count (Act booth)
    → c ≡ b ++ hears supervisor booth (reverse (range_with_len first (first + count - first)))
    → d ≡ c ++ flat_map (λ other. hears other booth (range_with_len first (first + count - first))) (others booth)
    → d ≡ start ++ session_steps i
unfolding session_steps
session_joined i booth first count start a b c d is_booth is_first is_count e f g h =
    let numbers : first + count - first ≡ count = omega arith in
    rw (h, g, f, e, numbers, is_count, is_first, is_booth) (simp append_assoc)

-- ---- how many actions and steps a day has

-- a session has two deeds or three
pub deeds_few : (i : ℕ) → length (deeds_of i) ≤ 3
unfolding deeds_of
deeds_few i =
    cond_both (i % 10 == 0) _ _ (λ (deeds : List Deed). length deeds ≤ 3) (λ tenth. omega arith) (λ other. omega arith)

-- what holds of three numbers holds of those below 3
below_three : (P : ℕ → Type 0) → P 0 → P 1 → P 2 → (r : ℕ) → r < 3 → P r
below_three P first second third zero h = first
below_three P first second third (suc zero) h = second
below_three P first second third (suc (suc zero)) h = third
below_three P first second third (suc (suc (suc r))) h = absurd (omega arith)

-- the booths have at most three deeds a session
pub booths_few : (n : ℕ) → length (actions_of 1 n) + length (actions_of 2 n) + length (actions_of 3 n) ≤ 3 * n
unfolding actions_of
booths_few zero = omega arith
booths_few (suc n) =
    let i : ℕ = suc n in
    let here : i + 1 - 1 ≡ suc n = omega arith in
    let before : i - 1 ≡ n = omega arith in
    let deeds = deeds_of i in
    let more = λ (booth : ℕ). rw (here, before) at
    (ap length (actions_more booth i (omega arith)) ∙ length-append (actions_of booth (i - 1)) _) in
    let one = below_three (λ r. length (cond (1 + r == 1) deeds []) + length (cond (1 + r == 2) deeds [])
    + length (cond (1 + r == 3) deeds []) ≡ length deeds) (omega arith) (omega arith) (omega arith) (n % 3)
    (omega arith) in
    omega (arith, booths_few n, one, deeds_few i, more 1, more 2, more 3)

-- a booth's next entry has a small number
pub first_few : (i : ℕ) → 1 ≤ i → first_number i ≤ 3 * (i - 1)
first_few i h =
    let all = booths_few (i - 1) in
    below_three (λ r. length (actions_of (1 + r) (i - 1)) ≤ 3 * (i - 1)) (omega (arith, all)) (omega (arith, all))
    (omega (arith, all)) ((i - 1) % 3) (omega arith)

-- how many entries each booth has made, with one session more
pub made_more : (made : List ℕ) (i end : ℕ) → 1 ≤ i → length made ≡ 3
    → ((k : ℕ) → k < 3 → get_or made k 0 ≡ length (actions_of (1 + k) (i - 1)))
    → end ≡ first_number i + length (deeds_of i)
    → (k : ℕ) → k < 3 → get_or (set made ((i - 1) % 3) end) k 0 ≡ length (actions_of (1 + k) (i + 1 - 1))
made_more made i end h long before is k less = elim (cases_eq k ((i - 1) % 3)) [
  | inl e ↦
      let own = eq-eqb (session_booth i) (1 + k) (ap (λ p. 1 + p) (sym e)) in
      rw (actions_more (1 + k) i h, own, length-append (actions_of (1 + k) (i - 1)) (deeds_of i), e)
      (get_or-set_same made ((i - 1) % 3) end 0 (omega arith) ∙ is)
  | inr other ↦
      let apart = ne_eqb (session_booth i) (1 + k) (λ same. other (omega (arith, same))) in
      rw (actions_more (1 + k) i h, apart, append-nil (actions_of (1 + k) (i - 1)))
      (get_or-set_other made ((i - 1) % 3) k end 0 other ∙ before k less)
]

-- nothing is made before the first session
pub none_made : (k : ℕ) → k < 3 → get_or (0 ∷ 0 ∷ 0 ∷ []) k 0 ≡ length (actions_of (1 + k) 0)
unfolding actions_of
none_made = below_three (λ k. get_or (0 ∷ 0 ∷ 0 ∷ []) k 0 ≡ length (actions_of (1 + k) 0)) refl refl refl

-- ---- the script of a day is within its limits

-- each number of a range
pub all_range : (P : ℕ → Type 0) (a n : ℕ) → ((i : ℕ) → a ≤ i → i < a + n → P i) → All P (range_with_len a n)
all_range P a n each = λ k d h.
    let within : k < n = omega (arith, length-range_with_len a n) in
    subst P (sym (get_or-range_with_len a n k d within)) (each (a + k) (omega arith) (omega arith))

-- a number's octets are octets
octets_of : (n : ℕ) → All (λ byte. byte < 256) (u32str n)
unfolding u32str
octets_of n =
    All-from_recursion (λ byte. byte < 256) (u32str n) (omega arith, (omega arith, (omega arith, (omega arith, tt))))

-- octets whichever way they are given
pub bytes_from_all : (bytes : List ℕ) → All (λ byte. byte < 256) bytes → IsBytes bytes
bytes_from_all [] h i = omega arith
bytes_from_all (byte ∷ bytes) h zero = h 0 byte (omega arith)
bytes_from_all (byte ∷ bytes) h (suc i) = bytes_from_all bytes (λ k d g. h (suc k) d (omega arith)) i

-- a ballot is a digest of octets
ballot_good : (i : ℕ) → IsDigest (session_ballot i) × IsBytes (session_ballot i)
unfolding u32str
ballot_good i = (
  refl,
  bytes_from_all (session_ballot i) (all_pieces (λ byte. byte < 256) (λ (octets : List ℕ). octets)
      (replicate 8 (u32str i)) (All-replicate (All (λ byte. byte < 256)) 8 (u32str i) (octets_of i))),
)

-- what a lawful machine of the role does
abbrev IsAction : List Cast0 → Role → Deed → Type 0
IsAction machines role deed = IsDeedOf role deed × IsDeedIn 1 deed × IsDeedAmong machines deed

-- a session's deeds are a booth's
deeds_lawful : (machines : List Cast0) (i : ℕ) → IsSession i → All (IsAction machines Booth) (deeds_of i)
unfolding deeds_of
deeds_lawful machines i h =
    let P : Deed → Type 0 = IsAction machines Booth in
    let ballot : IsDeedAmong machines (Commit i (session_ballot i)) = (h, (ballot_good i).0, (ballot_good i).1) in
    let two = All-from_recursion P (Activate i ∷ Cancel i ∷ []) ((refl, tt, h), ((refl, tt, h), tt)) in
    let three = All-from_recursion P (Activate i ∷ Commit i (session_ballot i) ∷ Cast i (session_ballot i) ∷ [])
    ((refl, tt, h), ((refl, tt, ballot), ((refl, tt, ballot), tt))) in
    cond_both (i % 10 == 0) _ _ (All P) (λ tenth. two) (λ other. three)

-- a booth's deeds are a booth's
actions_lawful : (machines : List Cast0) (booth n : ℕ) → n ≤ 800 → All (IsAction machines Booth) (actions_of booth n)
unfolding actions_of
actions_lawful machines booth n h =
    let P : Deed → Type 0 = IsAction machines Booth in
    all_pieces P deeds_of _ (All-filter (λ i. session_booth i == booth) (λ i. All P (deeds_of i)) (sessions n)
    (all_range (λ i. All P (deeds_of i)) 1 n (λ i g k. deeds_lawful machines i (g, omega arith))))

-- the place of a session's booth is a booth's
booth_at : (n r : ℕ) → r < 3 → IsBoothAt (machines_of n) (1 + r)
booth_at n = below_three (λ r. IsBoothAt (machines_of n) (1 + r)) (_, refl, refl) (_, refl, refl) (_, refl, refl)

-- the supervisor's deeds are a supervisor's
supervisor_lawful : (n : ℕ) → n ≤ 800 → All (IsAction (machines_of n) Supervisor) (supervisor_actions n)
supervisor_lawful n h =
    let P : Deed → Type 0 = IsAction (machines_of n) Supervisor in
    All-cons P Opened _ (refl, tt, tt) (All-append P (map authorise_of (sessions n)) (Closed ∷ [])
    (All-map P authorise_of (sessions n) (all_range (λ i. P (authorise_of i)) 1 n
    (λ i g k. (refl, tt, (booth_at n ((i - 1) % 3) (omega arith), (g, omega arith))))))
    (All-cons P Closed [] (refl, tt, tt) (All-nil P)))

-- how much the machines do in all
pub count_is : (n : ℕ) → count_actions (machines_of n)
    ≡ n + 2 + (length (actions_of 1 n) + (length (actions_of 2 n) + length (actions_of 3 n)))
count_is n = simp (length-append, length-map, length-range_with_len) (omega arith)

pub count_few : (n : ℕ) → n ≤ 800 → count_actions (machines_of n) ≤ max_actions
count_few n h = omega (arith, count_is n, booths_few n)

-- the machines of a day are lawful
pub machines_lawful : (n : ℕ) → n ≤ 800 → AreCast 1 (machines_of n)
machines_lawful n h =
    let all : List Cast0 = machines_of n in
    let number : List ℕ → ℕ = λ name. cond (get_or name 0 0 == 98) (get_or name 1 0 - 48) 0 in
    let at : (d : Cast0) (i : ℕ) → i < 4 → number (get_or all i d).name ≡ i = λ d i less.
    eqb-true _ i (agree_below_at (λ k. number (get_or all k d).name == k) (λ _. true) 4 i refl less) in
    record {
      few = (omega arith, omega arith);
      named = λ k d within. (name_test _).0
          (AllPass-from_list_all (λ (cast : Cast0). is_name_word cast.name) all refl k d within);
      distinct = λ i j d below within same.
          omega (arith, below, ap number same, at d i (omega (arith, below, within)), at d j within);
      supervisor = refl;
      actions = All-from_recursion (IsCast 1 all) all (
        supervisor_lawful n h,
        (actions_lawful all 1 n h, (actions_lawful all 2 n h, (actions_lawful all 3 n h, tt))),
      );
      in_all = count_few n h;
    }

-- ---- the steps of a day are within their limits

-- machines hear entries of small numbers
hears_lawful : (n at from : ℕ) (numbers : List ℕ) → at < 4 → from < 4 → All (λ number. number ≤ 4095) numbers
    → All (IsStep (machines_of n)) (hears at from numbers)
hears_lawful n at from numbers h g small =
    All-map (IsStep (machines_of n)) (λ number. Hear at from number) numbers (λ k d within. (h, g, small k d within))

-- the supervisor's entry
supervisor_steps_lawful : (n number : ℕ) → number ≤ 4095 → All (IsStep (machines_of n)) (supervisor_steps number)
supervisor_steps_lawful n number h =
    All-from_recursion (IsStep (machines_of n)) (supervisor_steps number)
    (omega arith, ((omega arith, omega arith, h), ((omega arith, omega arith, h), ((omega arith, omega arith, h), tt))))

-- a session's steps
session_lawful : (n i : ℕ) → 1 ≤ i → i ≤ 800 → All (IsStep (machines_of n)) (session_steps i)
unfolding session_steps
session_lawful n i h g =
    let P : Step → Type 0 = IsStep (machines_of n) in
    let heard : ℕ → List Step = λ other. hears other (session_booth i) (numbers_of i) in
    let w : List Step = supervisor_steps i in
    let x : List Step = replicate (length (deeds_of i)) (Act (session_booth i)) in
    let y : List Step = hears supervisor (session_booth i) (reverse (numbers_of i)) in
    let z : List Step = flat_map heard (others (session_booth i)) in
    let less : session_booth i < 4 = omega arith in
    let small : All (λ number. number ≤ 4095) (numbers_of i) =
    all_range (λ number. number ≤ 4095) (first_number i) (length (deeds_of i))
    (λ number from up. omega (arith, up, first_few i h, deeds_few i)) in
    let here : (other : ℕ) → other < 4 → All P (heard other) = λ other k.
    hears_lawful n other (session_booth i) (numbers_of i) k less small in
    All-append P (w ++ x ++ y) z (All-append P (w ++ x) y (All-append P w x (supervisor_steps_lawful n i (omega arith))
    (All-replicate P (length (deeds_of i)) (Act (session_booth i)) less))
    (hears_lawful n supervisor (session_booth i) (reverse (numbers_of i)) (omega arith) less
    (All-permutation (λ number. number ≤ 4095) (numbers_of i) _ (IsPermutation-reverse (numbers_of i)) small)))
    (all_pieces P heard (others (session_booth i))
    (All-filter (λ other. not (other == session_booth i)) (λ other. All P (heard other)) booths
    (All-from_recursion (λ other. All P (heard other)) booths
    (here 1 (omega arith), (here 2 (omega arith), (here 3 (omega arith), tt))))))

-- a day's steps
pub day_lawful : (n : ℕ) → n ≤ 800 → All (IsStep (machines_of n)) (day_steps n)
day_lawful n h =
    let P : Step → Type 0 = IsStep (machines_of n) in
    let all : List Step = flat_map session_steps (sessions n) in
    All-append P (supervisor_steps 0 ++ all) (supervisor_steps (n + 1))
    (All-append P (supervisor_steps 0) all (supervisor_steps_lawful n 0 (omega arith))
    (all_pieces P session_steps (sessions n)
    (all_range (λ i. All P (session_steps i)) 1 n (λ i g k. session_lawful n i g (omega arith)))))
    (supervisor_steps_lawful n (n + 1) (omega arith))

-- a session has few steps
session_few : (i : ℕ) → length (session_steps i) ≤ 19
unfolding session_steps
session_few i =
    let heard : ℕ → List Step = λ other. hears other (session_booth i) (numbers_of i) in
    let is_other : ℕ → Bool = λ other. not (other == session_booth i) in
    let size = length-range_with_len (first_number i) (length (deeds_of i)) in
    let each : (other : ℕ) → length (heard other) ≤ 3 = λ other.
    omega (arith, size, length-map (numbers_of i) (λ number. Hear other (session_booth i) number), deeds_few i) in
    let few = sum_by-le (λ other. length (heard other)) 3 (others (session_booth i)) (λ k d h. each _) in
    let three : length (others (session_booth i)) ≤ 3 =
    omega (arith, length-filter is_other booths, count_by-le-length is_other booths) in
    let z_few : length (flat_map heard (others (session_booth i))) ≤ 9 =
    rw (length-flat_map heard (others (session_booth i))) (omega (arith, few, three)) in
    simp (length-append, length-replicate, length-map, length-reverse, length-range_with_len)
    (omega (arith, z_few, deeds_few i))

-- a day has few steps
pub day_few : (n : ℕ) → n ≤ 800 → length (day_steps n) ≤ max_steps
day_few n h =
    let few : length (flat_map session_steps (sessions n)) ≤ length (sessions n) * 19 =
    rw (length-flat_map session_steps (sessions n))
    (sum_by-le (λ i. length (session_steps i)) 19 (sessions n) (λ k d g. session_few _)) in
    simp length-append (omega (arith, few, length-range_with_len 1 n))

-- the script of a day is lawful
pub generated_is_lawful : (n : ℕ) → 1 ≤ n → n ≤ 800 → IsLawful (generated n)
generated_is_lawful n some few = record {
  version = inl refl;
  seed = (omega arith, omega arith);
  octets = bytes_from_all (codes "auditorium") (λ k d within.
      ltb-true _ 256 (AllPass-from_list_all (λ byte. nat_lt byte 256) (codes "auditorium") refl k d within));
  height = inr refl;
  log = (omega (arith, count_is n), count_few n few);
  link = (omega arith, omega arith);
  machines = machines_lawful n few;
  loses = All-nil (IsLose (machines_of n));
  few_loses = omega arith;
  stops = All-nil (IsStopAt (machines_of n));
  one_stop_each = no_pairs (λ (stop : StopAt). stop.machine);
  steps = day_lawful n few;
  few_steps = day_few n few;
}
