-- What is left of an honest place.
use Rattle.entry_order.proofs.{Completions.gap_cases, Imports.[], Imports.ap, Imports.arith}
use Rattle.entry_order.proofs.Imports.{Completion, Contains, Contains-head, Distinct, false, filter_all, frontier_entry}
use Rattle.entry_order.proofs.Imports.{gaps, held, history, in_world, is_stray, IsBorneIn, IsNamedIn, IsOrderly, length}
use Rattle.entry_order.proofs.Imports.{length_play, length_start, List, member_at, no_stray_from, Node, not_from_false}
use Rattle.entry_order.proofs.Imports.{nth_of_sent, play, refl, Sent, sent_in, start, sym, World, ℕ, ◌<◌, ◌∙◌, ◌∷◌, ◌≡◌}
use Rattle.entry_order.proofs.Orders.{held_was_sent, next_of, one_order, rises, was_sent}
use Rattle.entry_order.proofs.{Plays.IsOrderly-play, Plays.IsOrderly-start, Settled.settled}
use Rattle.entry_order.specs.Honest.{AgreesWith, HasNoFork, HonestEntriesAgree, HonestEntriesAgreeInOrderlyWorlds}
use Rattle.entry_order.specs.{Honest.IsAllKnown, Honest.OrderIsHeld, Made.NumberedIsDistinct}

-- a list without a member is empty
pub none_inside : {X : Type 0} (xs : List X) → ((x : X) → Contains xs x → ⊥) → xs ≡ []
none_inside [] none = refl
none_inside (x ∷ xs) none = absurd (none x (Contains-head x xs))

module _ {T : Type 0} (node : T → Node) (w : World T) (orderly : IsOrderly node w) where
  -- a maker sends one entry with a number
  pub no_fork : HasNoFork node (sent_in w)
  no_fork e f ce cf made number =
      let (past, (m, later, at)) = was_sent w e ce in
      let (before, (k, rest, there)) = was_sent w f cf in
      let na = next_of node w orderly past e (m, later, at) in
      let nb = next_of node w orderly before f (k, rest, there) in
      let one : m ≡ k = sym na.maker ∙ made ∙ nb.maker in
      cc (ap (history w) one, na.number, nb.number, nth_of_sent past e later, nth_of_sent before f rest)

  -- the sent entries have every digest that they name
  lacks_nothing : (d : List ℕ) → IsNamedIn node (sent_in w) d → IsBorneIn node (sent_in w) d
  lacks_nothing d (e, c, n) =
      let (past, s) = was_sent w e c in
      let (g, there, same) = frontier_entry node (held past) d (rw (next_of node w orderly past e s).names at n) in
      (g, held_was_sent node w orderly past e s g there, same)

  module _ (distinct : Distinct node (sent_in w)) (machines : ℕ) (count : length w ≡ machines) (given : List T)
      (were_sent : (e : T) → Contains given e → Contains (sent_in w) e) where
    -- each maker is one of the machines
    in_roster : (e : T) → Contains (sent_in w) e → (node e).maker < machines
    in_roster e c =
        let (past, (m, later, at)) = was_sent w e c in
        omega (arith, in_world w m past (Sent e) later at, (next_of node w orderly past e (m, later, at)).maker)

    -- no given entry is a stray
    no_stray : (e : T) → Contains given e → is_stray node given e ≡ false
    no_stray e c = no_stray_from node given e (λ (g, cg, names, high).
        let up = rises node w orderly distinct g e (were_sent g cg) (were_sent e c) names in
        absurd (omega arith))

    -- what was sent completes what is given
    completed : Completion node machines given (sent_in w)
    completed =
        record { in_roster = in_roster; keeps = were_sent; distinct = distinct; lacks_nothing = lacks_nothing }

    -- the order that is reported is that of receipt
    order : OrderIsHeld node w given
    order parents ragged graph y x f e fy ex =
        let s = settled node machines given parents ragged graph y x f e fy ex in
        let same = one_order node w orderly distinct f e (were_sent f (member_at given y f fy))
        (were_sent e (member_at given x e ex)) in
        (λ t. same.0 (s.0 t (sent_in w) completed), λ t h. s.1 t (sent_in w) completed (same.1 h))

    module _ (all : (e : T) → Contains (sent_in w) e → Contains given e) where
      -- a given entry has each digest that a given entry names
      no_gap : (d : List ℕ) → Contains (gaps node given) d → ⊥
      no_gap d c =
          let ((e, there, names), unborne) = gap_cases node given d c in
          let (f, sent_f, same) = lacks_nothing d (e, were_sent e there, names) in
          unborne (f, all f sent_f, same)

      -- where all are given, nothing is unknown
      all_known : IsAllKnown node given
      all_known = record {
        no_gaps = none_inside (gaps node given) no_gap;
        no_unknown = λ parents ragged graph y x f e fy ex unknown.
            (settled node machines given parents ragged graph y x f e fy ex).2 unknown
            (record { itself = λ d n g. no_gap d g; ancestors = λ z p d n g. no_gap d g });
      }

    -- what is given agrees with the world
    pub agrees : AgreesWith node machines w given
    agrees = record {
      survive = filter_all _ given (λ e c. not_from_false _ (no_stray e c));
      no_fork = λ e f ce cf. no_fork e f (were_sent e ce) (were_sent f cf);
      completed = completed;
      order = order;
      all_known = all_known;
    }

-- the law, of an orderly world
pub honest_entries_agree_in_orderly_worlds : {T : Type 0} (node : T → Node) → HonestEntriesAgreeInOrderlyWorlds node
honest_entries_agree_in_orderly_worlds node w orderly distinct = agrees node w orderly distinct (length w) refl

-- the law, of a world that any list of steps made
pub honest_entries_agree : {T : Type 0} (node : T → Node) → HonestEntriesAgree node
honest_entries_agree {T} node next log machines steps lawful distinct given were_sent =
    let w = play node next log (start machines) steps in
    let orderly = IsOrderly-play node next log lawful (start machines) steps (IsOrderly-start node machines) in
    let count = length_play node next log (start {T = T} machines) steps ∙ length_start T machines in
    agrees node w orderly distinct machines count given were_sent

-- where a digest determines maker and number, two entries with one digest were sent at one place
pub numbered_is_distinct : {T : Type 0} (node : T → Node) → NumberedIsDistinct node
numbered_is_distinct node next log machines steps lawful tells e f ce cf is =
    let orderly = IsOrderly-play node next log lawful (start machines) steps (IsOrderly-start node machines) in
    let same = tells e f is in
    no_fork node (play node next log (start machines) steps) orderly e f ce cf same.0 same.1
