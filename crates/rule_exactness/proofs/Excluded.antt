-- What the class of two-sided rules leaves out: for each of its limits a rule that is unsettled, though
-- all completions agree on it.
use Rattle.rule_language.specs.declared.kind.Kind.TheVariants as kind
use Rattle.rule_language.specs.declared.kind.Field.TheVariants as field
use Rattle.rule_language.specs.declared.form.Form.TheVariants as form
use Rattle.rule_exactness.proofs.Imports
use Imports.{[], and_parts, AreSurvivors, arith, bind, Bool, completes, Completion, Contains, Contains-head}
use Imports.{Contains-none, Contains-one, eqb-true, Form, gap_or_bearer, gaps, HasNoDouble, inl, inr, is_kind, is_real}
use Imports.{IsGraphOf, IsOpen, Kind, List, map, meanings, member_at, Names, NamesNoGap, no_trees, Node, Of, Precedes}
use Imports.{refl, Row, Saying, slice_get_within, SomeHolds, subst, suc, Supervisor, sym, three_in, tree_then, Trees}
use Imports.{true, true≢false, unbound, Unknown, zero, ℕ, ◌+◌, ◌<◌, ◌==◌, ◌∙◌, ◌∷◌, ◌≡◌}
use Rattle.rule_exactness.proofs.TwoSided.{kind_there, kinds, same_kind}

-- an entry, by what it shows and what it says
record Entry : Type 0 where
  shows : Node
  says : Saying

-- what an entry shows
abbrev node : Entry → Node
node e = e.shows

-- each entry is of a kind
abbrev real : Kind → Kind
real kind.Any = kind.Opened
real k = k

-- and the row by which rules see it
abbrev row : Entry → Row
row e = record {
  kind = real e.says.kind;
  maker = e.shows.maker;
  role = Supervisor;
  number = e.says.number;
  session = e.says.session;
  ballot = e.says.ballot;
  booth = e.says.booth;
}

-- ---- one machine, and one survivor, an authorising that names a gap; its booth is no machine

-- the digest that is lost
abbrev gap : List ℕ
gap = 2 ∷ []

-- the one survivor
abbrev last : Entry
last = record {
  shows = record { digest = 1 ∷ []; names = gap ∷ []; maker = 0; number = 0; stamp = 1 };
  says = record { kind = kind.Authorise; number = 0; session = 0; ballot = []; booth = 1 };
}

-- there is no other
abbrev survivors : List Entry
survivors = last ∷ []

-- it names no survivor
abbrev parents : ℕ → List ℕ
parents i = []

-- and names a gap
abbrev ragged : ℕ → Bool
ragged i = true

-- what holds of the one survivor holds of each
at_last : (P : Entry → Type 0) → P last → (e : Entry) → Contains survivors e → P e
at_last P holds e c = subst P (Contains-one last e c) holds

-- they are survivors, and have this graph
are_survivors : AreSurvivors node 1 survivors
are_survivors = record {
  in_roster = at_last (λ e. (node e).maker < 1) (omega arith);
  distinct = λ e f ce cf same. sym (Contains-one last e ce) ∙ Contains-one last f cf;
}

-- it doesn't name itself
names_no_survivor : Names node last last → ⊥
names_no_survivor (zero, l, is) = cc
names_no_survivor (suc k, l, is) = absurd (omega arith)

-- what it names is a gap
is_lost : Contains (gaps node survivors) gap
is_lost = elim (gap_or_bearer node survivors last gap (Contains-head last []) (Contains-head gap [])) [
  | inl lost ↦ lost
  | inr (e, c, is) ↦ absurd (at_last (λ u. (node u).digest ≡ gap → ⊥) (λ same. cc) e c is)
]

-- no survivor is there twice
single : HasNoDouble survivors
single i j e at_i at_j =
    let here = slice_get_within survivors i e at_i in
    let there = slice_get_within survivors j e at_j in omega (arith, here, there)

-- this is the graph of it
are_graph : IsGraphOf node survivors parents ragged
are_graph = record {
  descends = λ x z c. absurd (Contains-none z c);
  inside = λ i p c. absurd (Contains-none p c);
  arrows = λ i p e f at_e at_f. (
    λ c. absurd (Contains-none p c),
    λ names. absurd (at_last (λ u. Names node u f → ⊥) (at_last (λ u. Names node last u → ⊥) names_no_survivor f
        (member_at survivors p f at_f)) e (member_at survivors i e at_e) names),
  );
  gaps_shown = λ i e at_e. (
    λ is. absurd (true≢false is),
    λ none. absurd (at_last (λ u. NamesNoGap node survivors u → ⊥) (λ none. none gap (Contains-head gap []) is_lost) e
        (member_at survivors i e at_e) none),
  );
}

-- the rule is unsettled by them, but not open
abbrev IsUnsettledInVain : Trees → Type 0
IsUnsettledInVain rule = (three_in (map row survivors) parents ragged rule ≡ Unknown)
    × ¬ IsOpen node row (λ e. Unit {0}) (λ G. Unit {0}) 1 survivors rule

-- it is, by both
in_vain : (rule : Trees) → three_in (map row survivors) parents ragged rule ≡ Unknown →
    ¬ IsOpen node row (λ e. Unit {0}) (λ G. Unit {0}) 1 survivors rule → IsUnsettledInVain rule
in_vain rule unsettled closed = (unsettled, closed)

-- in each completion the lost entry precedes the survivor
lost : (G : List Entry) → Completion node 1 survivors G → (f : Entry) × Precedes node G f last
lost G completion =
    let there : Contains G last = completion.keeps last (Contains-head last []) in
    let (f, cf, is) = completion.lacks_nothing gap (last, there, Contains-head gap []) in
    (f, (cf, there, [], subst (λ (d : List ℕ). Contains (node last).names d) (sym is) (Contains-head gap [])))

-- ---- the rules

-- a form without parts, put in front of others, and with these in it
abbrev atom : Form → Trees → Trees
atom f rest = tree_then f no_trees rest

-- a form alone, with these parts
abbrev only : Form → Trees → Trees
only f parts = tree_then f parts no_trees

-- (every x authorise ..)
abbrev every_x : Trees → Trees
every_x body = only (form.ForEvery 120 kind.Authorise) body

-- (some y KIND before x ..)
abbrev some_y_before : Kind → Trees → Trees → Trees
some_y_before k body rest = tree_then (form.SomeBefore 121 k 120) body rest

-- (some y KIND before x true)
abbrev some_y : Kind → Trees → Trees
some_y k rest = some_y_before k (atom form.True no_trees) rest

-- such a formula for each of these kinds
abbrev some_of_each : List Kind → Trees
some_of_each [] = no_trees
some_of_each (k ∷ ks) = some_y k (some_of_each ks)

-- a kind is both asked for and forbidden:
-- (or (some y opened before x true) (not (some y opened before x true)))
abbrev either_way : Trees
either_way = every_x (only form.Or (some_y kind.Opened (only form.Not (some_y kind.Opened no_trees))))

-- every kind is asked for: (some y entry before x true)
abbrev any_before : Trees
any_before = every_x (some_y kind.Any no_trees)

-- each of the ten kinds is asked for:
-- (or (some y opened before x true) (some y authorise before x true) .. (some y challenge before x true))
abbrev one_of_ten : Trees
one_of_ten = every_x (only form.Or (some_of_each kinds))

-- a maker is asked for that may be no machine: (some y opened before x (= y.maker x.booth))
abbrev made_by_booth : Trees
made_by_booth =
    every_x (some_y_before kind.Opened (atom (form.Equal (Of 121 field.Maker) (Of 120 field.Booth)) no_trees) no_trees)

-- a number is asked for that no entry has: (some y opened before x (next y x))
abbrev next_after : Trees
next_after = every_x (some_y_before kind.Opened (atom (form.Next 121 120) no_trees) no_trees)

-- ---- each is unsettled, and yet all completions keep it, or none does

-- (or A (not A)) holds
either_way_in_vain : IsUnsettledInVain either_way
either_way_in_vain = in_vain either_way refl (λ o.
    let (G, completes, breaks) = o.broken in
    breaks (at_last _ (λ k. inr (inl (λ some. breaks (at_last _ (λ k. inl some)))))))

-- the lost entry is before x
any_before_in_vain : IsUnsettledInVain any_before
any_before_in_vain = in_vain any_before refl (λ o.
    let (G, completes, breaks) = o.broken in
    let (f, path) = lost G completes.whole in breaks (at_last _ (λ k. (f, refl, path, tt))))

-- where an entry of one of the kinds is before x, one of the formulas holds
one_before : (G : List Entry) (x y : Entry) (k : Kind) → is_kind k (row y).kind ≡ true → Precedes node G y x →
    (ks : List Kind) → Contains ks k → SomeHolds (meanings node row survivors G (some_of_each ks) (bind 120 x unbound))
one_before G x y k is path [] c = absurd (Contains-none k c)
one_before G x y k is path (l ∷ ks) (zero, m, same) = inl (y, rw same is, path, tt)
one_before G x y k is path (l ∷ ks) (suc i, m, at) = inr (one_before G x y k is path ks (i, omega arith, at))

-- no entry is of the kind `entry`
always_real : (k : Kind) → is_real (real k) ≡ true
always_real kind.Any = refl
always_real k = refl

-- the lost entry is of one of the ten kinds
one_of_ten_in_vain : IsUnsettledInVain one_of_ten
one_of_ten_in_vain = in_vain one_of_ten refl (λ o.
    let (G, completes, breaks) = o.broken in
    let (f, path) = lost G completes.whole in
    let k = real f.says.kind in
    breaks (at_last _ (λ _. one_before G last f k (same_kind k) path kinds (kind_there k (always_real f.says.kind)))))

-- no machine is the maker
made_by_booth_in_vain : IsUnsettledInVain made_by_booth
made_by_booth_in_vain = in_vain made_by_booth refl (λ o.
    let (G, completes, holds) = o.kept in
    let (y, _, path, equal) = holds last (Contains-head last []) refl in
    let maker : (node y).maker ≡ 1 = eqb-true (node y).maker 1 equal in
    let few = completes.whole.in_roster y path.0 in omega (arith, maker, few))

-- no number is before 0
next_after_in_vain : IsUnsettledInVain next_after
next_after_in_vain = in_vain next_after refl (λ o.
    let (G, completes, holds) = o.kept in
    let (y, _, path, next) = holds last (Contains-head last []) refl in
    let (_, after) = and_parts ((node y).maker == 0) (y.says.number + 1 == 0) next in
    let number : y.says.number + 1 ≡ 0 = eqb-true (y.says.number + 1) 0 after in omega (arith, number))
