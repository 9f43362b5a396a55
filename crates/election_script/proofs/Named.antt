-- What a word names: a machine, or something in a table.
use Rattle.election_script.proofs.Imports
use Imports.{[], All, AllPairs, Any, ap, arith, Bool, Booth, bytes_eq, bytes_eq-Decides, cases_Bool, Cast0, Deed, false}
use Imports.{false_from_ne_true, get_or, get_or_from_slice_get, height_word, How, how_names, how_word, IfNone, IfSome}
use Imports.{in_table, inl, inr, is_between, is_listed, is_name_byte, is_name_word, is_same_role, IsBetween}
use Imports.{IsDeedAmong, IsDeedIn, IsDeedOf, IsHeight, IsName, IsNameByte, IsStopAt, key_heights, key_kinds, Kind}
use Imports.{le-leb, leb-true, length, line_kinds, line_word, List, list_all, name_at, name_of, named, nat_le, None}
use Imports.{ok_or, Option, ots_word, OtsKind, place_of, position_from, refl, Role, role_names, role_word, roles_of}
use Imports.{slice_get, slice_get-get_or, slice_get_cases, Some, StopAt, stopped_of, subst, suc, Supervisor, sym, true}
use Imports.{true≢false, UnknownWord, W1, zero, ℕ, ◌+◌, ◌<◌, ◌↔◌, ◌∙◌, ◌∷◌, ◌≡◌, ◌≢◌, ◌⊎◌}
use Rattle.std.proofs.Common.{is_some}
use Rattle.std.proofs.lemmas.Bool.Decides.{Decides-and, Decides-by_and, Decides-like, Decides-or}
use Rattle.std.proofs.lemmas.Option.{slice_get-map}
use Rattle.std.proofs.lemmas.{Bool.cases_order, List.Folds.Any-from_list_any, List.Folds.list_any-from_Any}
use Rattle.std.specs.Prelude.{◌||◌}
use Rattle.std.specs.{Bool.Decides, List.list_any}
use Rattle.entry_format.specs.declared.deed.How.TheVariants as how

-- ---- which words have the form of a name

-- a number is between two others
pub between_test : (least greatest number : ℕ) → Decides (is_between least greatest number)
    (IsBetween least greatest number)
between_test least greatest number =
    Decides-and (nat_le least number) (nat_le number greatest) (leb-true least number, le-leb least number)
    (leb-true number greatest, le-leb number greatest)

-- a byte is a character of a name
byte_test : (byte : ℕ) → Decides (is_name_byte byte) (IsNameByte byte)
byte_test byte =
    Decides-or (is_between 97 122 byte) (is_between 48 57 byte) (between_test 97 122 byte) (between_test 48 57 byte)

-- a word is a name
pub name_test : (word : List ℕ) → Decides (is_name_word word) (IsName word)
name_test word =
    Decides-like (is_name_word word) (λ (size, bytes). record { some = size.0; at_most = size.1; bytes = bytes })
    (λ is. ((is.some, is.at_most), is.bytes))
    (Decides-and (is_between 1 16 (length word)) (list_all is_name_byte word) (between_test 1 16 (length word))
    (Decides-by_and is_name_byte IsNameByte (list_all is_name_byte) byte_test refl (λ x xs. refl) word))

-- ---- what a word names in the tables of roles, ways to override, kinds of key and heights

-- what is found is what is read
pub reads : {A : Type 0} (rows : List (List ℕ × A)) (word : List ℕ) (found : Option A) → found ≡ named rows word →
    ok_or found UnknownWord ≡ in_table rows word
reads rows word found is = ap (λ f. ok_or f UnknownWord) is

-- each row's thing is so by its word
abbrev pub AreRows : {A : Type 0} → (List ℕ → A → Type 0) → List (List ℕ × A) → Type 0
AreRows P [] = Unit {0}
AreRows P (row ∷ rows) = P row.0 row.1 × AreRows P rows

pub row_is : {A : Type 0} (P : List ℕ → A → Type 0) (rows : List (List ℕ × A)) (word : List ℕ) → AreRows P rows →
    (a : A) → named rows word ≡ Some a → P word a
row_is P [] word are a is = cc
row_is P ((own, thing) ∷ rows) word (first, more) a is = elim (cases_Bool (bytes_eq word own)) [
  | inl equal ↦
      let here = rw equal at is in
      let same : thing ≡ a = cc in
      rw (← same, (bytes_eq-Decides word own).0 equal) first
  | inr other ↦ row_is P rows word more a (rw other at is)
]

-- a word that names a kind of line is the kind's
pub kind_word : (word : List ℕ) (k : Kind) → named line_kinds word ≡ Some k → word ≡ line_word k
kind_word word =
    row_is (λ w k. w ≡ line_word k) line_kinds word
    (refl, (refl, (refl, (refl, (refl, (refl, (refl, (refl, (refl, (refl, tt))))))))))

-- a word that names a role, how a session is overridden, a kind of key or a height is its word
pub role_named : (word : List ℕ) (role : Role) → named role_names word ≡ Some role → word ≡ role_word role
role_named word = row_is (λ w role. w ≡ role_word role) role_names word (refl, (refl, tt))

pub how_named : (word : List ℕ) (how : How) → named how_names word ≡ Some how → word ≡ how_word how
how_named word = row_is (λ w how. w ≡ how_word how) how_names word (refl, (refl, tt))

pub kind_named : (word : List ℕ) (kind : OtsKind) → named key_kinds word ≡ Some kind → word ≡ ots_word kind
kind_named word = row_is (λ w kind. w ≡ ots_word kind) key_kinds word (refl, (refl, (refl, (refl, tt))))

pub height_named : (word : List ℕ) (height : ℕ) → named key_heights word ≡ Some height →
    IsHeight height × (word ≡ height_word height)
height_named word =
    row_is (λ w height. IsHeight height × (w ≡ height_word height)) key_heights word
    ((inl refl, refl), ((inr refl, refl), tt))

-- what names nothing of some names nothing
pub none_named : {A : Type 0} (found : Option A) → ((a : A) → found ≡ Some a → ⊥) → found ≡ None
none_named None none = refl
none_named (Some a) none = absurd (none a refl)

-- the word of a role names it
pub some_role : (role : Role) → named role_names (role_word role) ≡ Some role
some_role Supervisor = refl
some_role Booth = refl

-- the word of how a session is overridden names it
pub some_how : (how : How) → named how_names (how_word how) ≡ Some how
some_how how.Cancel = refl
some_how how.Cast = refl

-- that of a kind of key names it, and no other word names one
pub some_kind : (kind : OtsKind) → named key_kinds (ots_word kind) ≡ Some kind
some_kind W1 = refl
some_kind kind = refl

pub kind_is : (word : List ℕ) (found : Option OtsKind) → IfSome found (λ kind. word ≡ ots_word kind)
    → IfNone found ((kind : OtsKind) → word ≢ ots_word kind) → found ≡ named key_kinds word
kind_is word (Some kind) is unknown = sym (ap (named key_kinds) is ∙ some_kind kind)
kind_is word None is unknown =
    sym (none_named (named key_kinds word) (λ kind found. unknown kind (kind_named word kind found)))

-- the word of a height of keys names it
pub some_height : (height : ℕ) → IsHeight height → named key_heights (height_word height) ≡ Some height
some_height height (inl is) = rw is refl
some_height height (inr is) = rw is refl

pub height_is : (word : List ℕ) (found : Option ℕ) → IfSome found IsHeight
    → IfSome found (λ height. word ≡ height_word height)
    → IfNone found ((height : ℕ) → IsHeight height → word ≢ height_word height) → found ≡ named key_heights word
height_is word (Some height) good is unknown = sym (ap (named key_heights) is ∙ some_height height good)
height_is word None good is unknown = sym (none_named (named key_heights word) (λ height found.
    let (high, same) = height_named word height found in unknown height high same))

-- ---- machines at their places, and by their names

-- the machine at the place has the name
abbrev pub IsNamedAt : List Cast0 → List ℕ → ℕ → Type 0
IsNamedAt machines name place = (place < length machines) × (name_at machines place ≡ name)

-- the machine at the place has the role
abbrev pub HasRoleAt : List Cast0 → Role → ℕ → Type 0
HasRoleAt machines role place = (cast : Cast0) × (slice_get machines place ≡ Some cast) × (cast.role ≡ role)

-- the machine at a place may do the deed in the version
abbrev pub IsDone : ℕ → List Cast0 → ℕ × Deed → Type 0
IsDone version machines done =
    (cast : Cast0) × (slice_get machines done.0 ≡ Some cast) × IsDeedOf cast.role done.1 × IsDeedIn version done.1
    × IsDeedAmong machines done.1

-- the machine at a place
pub cast_at : (machines : List Cast0) (place : ℕ) → place < length machines →
    (cast : Cast0) × (slice_get machines place ≡ Some cast)
cast_at machines place within = elim (slice_get_cases machines place).1 [
  | inl found ↦ (found.0, found.2)
  | inr past ↦ absurd (omega arith)
]

-- no two machines have one name
abbrev pub AreDistinct : List Cast0 → Type 0
AreDistinct machines = AllPairs (λ (cast other : Cast0). cast.name ≢ other.name) machines

-- the first place from one on of a machine of the name
abbrev pub from : List ℕ → ℕ → List Cast0 → Option ℕ
from name at machines = position_from (λ (machine : List ℕ × Role). bytes_eq machine.0 name) at (roles_of machines)

-- the name of a place is that of the machine there
pub name_is : (machines : List Cast0) (place : ℕ) (d : Cast0) → place < length machines →
    name_at machines place ≡ (get_or machines place d).name
name_is machines place d within = ap name_of (slice_get-get_or machines place d within)

-- where the machine at a place has the name, one of them has it
pub named_any : (machines : List Cast0) (name : List ℕ) (place : ℕ) → IsNamedAt machines name place →
    Any (λ (cast : Cast0). cast.name ≡ name) machines
named_any machines name place (within, named) =
    let (cast, there) = cast_at machines place within in
    (place, cast, within, get_or_from_slice_get machines place cast cast there, rw there at named)

-- the first machine of a name is found, or there is none
found : (machines : List Cast0) (name : List ℕ) (at : ℕ) →
    ((k : ℕ) × (from name at machines ≡ Some (at + k)) × IsNamedAt machines name k)
    ⊎ ((from name at machines ≡ None) × ((k : ℕ) → IsNamedAt machines name k → ⊥))
found [] name at = inr (refl, λ k (within, named). absurd (omega (arith, within)))
found (first ∷ machines) name at = elim (cases_Bool (bytes_eq first.name name)) [
  | inl same ↦ inl (0, rw same (ap Some (omega arith)), (omega arith, (bytes_eq-Decides first.name name).0 same))
  | inr other ↦ elim (found machines name (at + 1)) [
    | inl (k, is, (within, named)) ↦ inl (suc k, rw other (is ∙ ap Some (omega arith)), (omega (arith, within), named))
    | inr (is, none) ↦
        let later : (k : ℕ) → IsNamedAt (first ∷ machines) name k → ⊥ = elim [
          | zero ↦ λ (within, named). true≢false (sym ((bytes_eq-Decides first.name name).1 named) ∙ other)
          | suc k ↦ λ (within, named). none k (omega (arith, within), named)
        ] in
        inr (rw other is, later)
  ]
]

-- a name that is found is that of the machine at the place
pub place_is : (machines : List Cast0) (name : List ℕ) (place : ℕ) →
    place_of (roles_of machines) name ≡ Some place → IsNamedAt machines name place
place_is machines name place at = elim (found machines name 0) [
  | inl (k, is, there) ↦
      let same : 0 + k ≡ place = cc in
      subst (IsNamedAt machines name) (omega (arith, same)) there
  | inr (is, none) ↦ cc
]

-- a name that no machine has isn't found
pub place_none : (machines : List Cast0) (name : List ℕ) →
    (Any (λ (cast : Cast0). cast.name ≡ name) machines → ⊥) → place_of (roles_of machines) name ≡ None
place_none machines name new = elim (found machines name 0) [
  | inl (k, is, there) ↦ absurd (new (named_any machines name k there))
  | inr (is, none) ↦ is
]

-- nor has any machine a name that isn't found
pub place_unknown : (machines : List Cast0) (name : List ℕ) → is_some (place_of (roles_of machines) name) ≡ false →
    Any (λ (cast : Cast0). cast.name ≡ name) machines → ⊥
place_unknown machines name unknown (k, cast, within, is, named) = elim (found machines name 0) [
  | inl (place, at, there) ↦ absurd (true≢false (sym (ap is_some at) ∙ unknown))
  | inr (at, none) ↦ none k (within, name_is machines k cast within ∙ ap (λ (c : Cast0). c.name) is ∙ named)
]

-- two places of one name are one
pub same_place : (machines : List Cast0) (i j : ℕ) → AreDistinct machines → i < length machines →
    j < length machines → name_at machines i ≡ name_at machines j → i ≡ j
same_place machines i j distinct within also same =
    let (d, there) = cast_at machines i within in
    let names : (get_or machines i d).name ≡ (get_or machines j d).name =
    sym (name_is machines i d within) ∙ same ∙ name_is machines j d also in
    elim (cases_order i j) [
      | inl is ↦ is
      | inr (inl below) ↦ absurd (distinct i j d below also names)
      | inr (inr above) ↦ absurd (distinct j i d above within (sym names))
    ]

-- the name at a place is that of the machine there alone
pub place_back : (machines : List Cast0) (place : ℕ) → AreDistinct machines → place < length machines →
    place_of (roles_of machines) (name_at machines place) ≡ Some place
place_back machines place distinct within = elim (found machines (name_at machines place) 0) [
  | inl (k, is, (inside, named)) ↦
      let same = same_place machines k place distinct inside within named in
      is ∙ ap Some (omega (arith, same))
  | inr (is, none) ↦ absurd (none place (within, refl))
]

-- a role is that role
pub same_role : (role other : Role) → (is_same_role role other ≡ true) ↔ (other ≡ role)
same_role Supervisor Supervisor = (λ is. refl, λ is. refl)
same_role Supervisor Booth = (λ is. cc, λ is. cc)
same_role Booth Supervisor = (λ is. cc, λ is. cc)
same_role Booth Booth = (λ is. refl, λ is. refl)

-- the name and the role of the machine at a place
pub has_role : (machines : List Cast0) (place : ℕ) (cast : Cast0) → slice_get machines place ≡ Some cast →
    slice_get (roles_of machines) place ≡ Some (cast.name, cast.role)
has_role machines place cast is =
    rw (slice_get-map {B = List ℕ × Role} (λ (cast : Cast0). (cast.name, cast.role)) machines place, is)

-- whether a stop's machine is of the name
abbrev is_stop_of : List Cast0 → List ℕ → StopAt → Bool
is_stop_of machines name stop = bytes_eq (name_at machines stop.machine) name

-- a name is among those of the machines that stop where one of the stops is of it
among_is : (machines : List Cast0) (stops : List StopAt) (name : List ℕ) →
    is_listed (stopped_of machines stops) name ≡ list_any (is_stop_of machines name) stops
among_is machines [] name = refl
among_is machines (stop ∷ stops) name =
    ap (λ rest. is_stop_of machines name stop || rest) (among_is machines stops name)

-- a machine that stops is among them by its name
pub stop_among : (machines : List Cast0) (stops : List StopAt) (place : ℕ) →
    Any (λ (stop : StopAt). stop.machine ≡ place) stops →
    is_listed (stopped_of machines stops) (name_at machines place) ≡ true
stop_among machines stops place (k, stop, within, is, same) =
    let name : List ℕ = name_at machines place in
    among_is machines stops name ∙ list_any-from_Any (is_stop_of machines name) stops
    (k, stop, within, is, (bytes_eq-Decides (name_at machines stop.machine) name).1 (ap (name_at machines) same))

-- and another isn't
pub stop_new : (machines : List Cast0) (stops : List StopAt) (place : ℕ) → AreDistinct machines →
    All (IsStopAt machines) stops → place < length machines → (Any (λ (stop : StopAt). stop.machine ≡ place) stops → ⊥)
    → is_listed (stopped_of machines stops) (name_at machines place) ≡ false
stop_new machines stops place distinct good inside none =
    let name : List ℕ = name_at machines place in
    false_from_ne_true (is_listed (stopped_of machines stops) name) (λ among.
    let (k, stop, within, is, test) = Any-from_list_any (is_stop_of machines name) stops
    (sym (among_is machines stops name) ∙ among) in
    let there : stop.machine < length machines = rw is at (good k stop within).0 in
    let same = (bytes_eq-Decides (name_at machines stop.machine) name).0 test in
    none (k, stop, within, is, same_place machines stop.machine place distinct there inside same))
