-- The standard rules, which hold of every honest election.
use Rattle.std.specs.Prelude.{ℕ, List, [], ◌∷◌, codes}
use Rattle.roster.specs.declared.post.Role.TheVariants.{Supervisor, Booth}
use Rattle.rule_language.specs.declared.kind.Kind.{Kind}
use Rattle.rule_language.specs.declared.kind.Kind.TheVariants as kind
use Rattle.rule_language.specs.declared.term.Term.TheVariants.{Of, Number}
use Rattle.rule_language.specs.declared.kind.Field.TheVariants as field
use Rattle.rule_language.specs.declared.form.Form.{Form}
use Rattle.rule_language.specs.declared.form.Form.TheVariants as form
use Rattle.rule_language.specs.Trees.{Trees, no_trees, tree_then, RuleTree}

-- a formula, put in front of others
abbrev pub Inner : Type 0
Inner = Trees → Trees

-- the variables
abbrev x : ℕ
x = 120

-- the second variable
abbrev y : ℕ
y = 121

-- the third variable
abbrev z : ℕ
z = 122

-- a form with no formula, one, or more in it

-- a form with no formula in it
abbrev atom : Form → Inner
atom form rest = tree_then form no_trees rest

-- a form with one formula in it
abbrev one : Form → Inner → Inner
one form f rest = tree_then form (f no_trees) rest

-- a form with two
abbrev two : Form → Inner → Inner → Inner
two form f g rest = tree_then form (f (g no_trees)) rest

-- a form with three
abbrev three : Form → Inner → Inner → Inner → Inner
three form f g h rest = tree_then form (f (g (h no_trees))) rest

-- a form with five
abbrev five : Form → Inner → Inner → Inner → Inner → Inner → Inner
five form f g h k l rest = tree_then form (f (g (h (k (l no_trees))))) rest

-- what the rules say of two entries
abbrev same_session : ℕ → ℕ → Inner
same_session v u = atom (form.Equal (Of v field.Session) (Of u field.Session))

-- that they have one maker
abbrev same_maker : ℕ → ℕ → Inner
same_maker v u = atom (form.Equal (Of v field.Maker) (Of u field.Maker))

-- that they have one ballot
abbrev same_ballot : ℕ → ℕ → Inner
same_ballot v u = atom (form.Equal (Of v field.Ballot) (Of u field.Ballot))

-- that they have one number
abbrev same_number : ℕ → ℕ → Inner
same_number v u = atom (form.Equal (Of v field.Number) (Of u field.Number))

-- that the first is for the booth that made the second
abbrev booth_is_maker : ℕ → ℕ → Inner
booth_is_maker v u = atom (form.Equal (Of v field.Booth) (Of u field.Maker))

-- that x and y are one entry
abbrev is_same : Inner
is_same = atom (form.Same x y)

-- that x is of the kind
abbrev of_kind : Kind → Inner
of_kind kind = atom (form.OfKind x kind)

-- quantifiers
abbrev every_x : Kind → Inner → Trees
every_x kind f = one (form.ForEvery x kind) f no_trees

-- for every y of the kind
abbrev every_y : Kind → Inner → Inner
every_y kind f = one (form.ForEvery y kind) f

-- for every z of the kind
abbrev every_z : Kind → Inner → Inner
every_z kind f = one (form.ForEvery z kind) f

-- for some y of the kind before x
abbrev some_y_before : Kind → Inner → Inner
some_y_before kind f = one (form.SomeBefore y kind x) f

-- for some z of the kind before x
abbrev some_z_before : Kind → Inner → Inner
some_z_before kind f = one (form.SomeBefore z kind x) f

-- for some z of the kind before y
abbrev some_z_before_y : Kind → Inner → Inner
some_z_before_y kind f = one (form.SomeBefore z kind y) f

-- the opposite of a formula
abbrev never : Inner → Inner
never f = one form.Not f

-- O1: there is one opening at most
abbrev pub o1_body : Trees
o1_body = every_x kind.Opened (every_y kind.Opened is_same)

-- O2: before an authorising comes an opening
abbrev pub o2_body : Trees
o2_body = every_x kind.Authorise (some_y_before kind.Opened (atom form.True))

-- A1: before an activation its session was authorised for this booth
abbrev pub a1_body : Trees
a1_body = every_x kind.Activate (some_y_before kind.Authorise (two form.And (same_session y x) (booth_is_maker y x)))

-- A2: a session is authorised once at most
abbrev pub a2_body : Trees
a2_body = every_x kind.Authorise (every_y kind.Authorise (two form.Implies (same_session x y) is_same))

-- C1: before a commitment its booth activated the session
abbrev pub c1_body : Trees
c1_body = every_x kind.Commit (some_y_before kind.Activate (two form.And (same_maker y x) (same_session y x)))

-- C2: before a cast its booth committed to the ballot in the session
abbrev pub c2_body : Trees
c2_body = every_x kind.Cast (some_y_before kind.Commit
    (three form.And (same_maker y x) (same_session y x) (same_ballot y x)))

-- C3: a session has one cast at most
abbrev pub c3_body : Trees
c3_body = every_x kind.Cast (every_y kind.Cast (two form.Implies (same_session x y) is_same))

-- C4: a session with a cast has no cancellation and no challenge
abbrev pub c4_body : Trees
c4_body = every_x kind.Cast (two form.And (every_y kind.Cancel (never (same_session x y)))
    (every_z kind.Challenge (never (same_session x z))))

-- C5: before a cancellation its session was authorised for this booth
abbrev pub c5_body : Trees
c5_body = every_x kind.Cancel (some_y_before kind.Authorise (two form.And (same_session y x) (booth_is_maker y x)))

-- V1: before an override its session was authorised
abbrev pub v1_body : Trees
v1_body = every_x kind.Override (some_y_before kind.Authorise (same_session y x))

-- V2: no override of its session precedes a cast
abbrev pub v2_body : Trees
v2_body = every_x kind.Cast (never (some_y_before kind.Override (same_session y x)))

-- P1: there is one closing at most
abbrev pub p1_body : Trees
p1_body = every_x kind.Closed (every_y kind.Closed is_same)

-- P2: no closing precedes an authorising
abbrev pub p2_body : Trees
p2_body = every_x kind.Authorise (never (some_y_before kind.Closed (atom form.True)))

-- P3: a session authorised before a closing has its cast, cancellation or challenge before it
abbrev pub p3_body : Trees
p3_body = every_x kind.Authorise (every_y kind.Closed (two form.Implies (atom (form.Before x y))
    (three form.Or (some_z_before_y kind.Cast (same_session z x)) (some_z_before_y kind.Cancel (same_session z x))
    (some_z_before_y kind.Challenge (same_session z x)))))

-- P4: no closing precedes a cast
abbrev pub p4_body : Trees
p4_body = every_x kind.Cast (never (some_y_before kind.Closed (atom form.True)))

-- M1: each entry is of a kind that its maker's role may make
abbrev pub m1_body : Trees
m1_body = every_x kind.Any (two form.Or
    (two form.And (atom (form.Is x Supervisor)) (five form.Or (of_kind kind.Opened) (of_kind kind.Authorise)
    (of_kind kind.Override) (of_kind kind.Forced) (of_kind kind.Closed)))
    (two form.And (atom (form.Is x Booth)) (five form.Or (of_kind kind.Activate) (of_kind kind.Commit)
    (of_kind kind.Cast) (of_kind kind.Cancel) (of_kind kind.Challenge))))

-- K1: a machine makes one entry of each number at most
abbrev pub k1_body : Trees
k1_body = every_x kind.Any (every_y kind.Any (two form.Implies
    (two form.And (same_maker x y) (same_number x y)) is_same))

-- K2: an entry that isn't numbered 0 has its maker's previous one before it
abbrev pub k2_body : Trees
k2_body = every_x kind.Any (two form.Or (atom (form.Equal (Of x field.Number) (Number 0)))
    (some_y_before kind.Any (atom (form.Next y x))))

-- C6: before a challenge its booth committed to the ballot in the session
abbrev pub c6_body : Trees
c6_body = every_x kind.Challenge (some_y_before kind.Commit
    (three form.And (same_maker y x) (same_session y x) (same_ballot y x)))

-- C7: a session with a challenge has no other challenge and no cancellation
abbrev pub c7_body : Trees
c7_body = every_x kind.Challenge (two form.And (every_y kind.Challenge (two form.Implies (same_session x y) is_same))
    (every_z kind.Cancel (never (same_session x z))))

-- V3: no override and no forced cast of its session precedes a challenge
abbrev pub v3_body : Trees
v3_body = every_x kind.Challenge (two form.And (never (some_y_before kind.Override (same_session y x)))
    (never (some_z_before kind.Forced (same_session z x))))

-- V4: before a forced cast its session was authorised and has a commitment
abbrev pub v4_body : Trees
v4_body = every_x kind.Forced (two form.And (some_y_before kind.Authorise (same_session y x))
    (some_z_before kind.Commit (same_session z x)))

-- a rule of this name
abbrev named : List ℕ → Trees → RuleTree
named name body = record { name = name; body = body }

-- one opening, before every authorising (O); a booth acts on its own authorised session alone (A),
-- and commits, casts, challenges or cancels it in order (C); overrides concern authorised sessions
-- and precede no cast that they forbid (V); one closing, after which nothing is authorised or cast
-- (P); each role its deeds (M); no fork, and a chain (K) (VoteBox, USENIX Security 2008)
abbrev pub standard_rules : List RuleTree
standard_rules =
    named (codes "O1") o1_body ∷ named (codes "O2") o2_body ∷ named (codes "A1") a1_body
    ∷ named (codes "A2") a2_body ∷ named (codes "C1") c1_body ∷ named (codes "C2") c2_body
    ∷ named (codes "C3") c3_body ∷ named (codes "C4") c4_body ∷ named (codes "C5") c5_body
    ∷ named (codes "V1") v1_body ∷ named (codes "V2") v2_body ∷ named (codes "P1") p1_body
    ∷ named (codes "P2") p2_body ∷ named (codes "P3") p3_body ∷ named (codes "P4") p4_body
    ∷ named (codes "M1") m1_body ∷ named (codes "K1") k1_body ∷ named (codes "K2") k2_body
    ∷ named (codes "C6") c6_body ∷ named (codes "C7") c7_body ∷ named (codes "V3") v3_body
    ∷ named (codes "V4") v4_body ∷ []
