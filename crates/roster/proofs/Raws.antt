-- What is said of machines as they are read, said of the machines that they are.
use Rattle.roster.proofs.Imports.{◌≡◌, ◌≢◌, ℕ, zero, suc, ◌<◌, List, [], ◌∷◌, ◌+◌, length, take, if◌then◌else◌}
use Rattle.roster.proofs.Imports.{get_or, map, All, refl, sym, ap, subst, ◌∙◌, ⊎_elim, ◌⊎◌, arith, Any, AllPairs}
use Rattle.roster.proofs.Imports.{fold, count_by, IsAscii, IsUtf8, get_or-map, length-map, get_or-take}
use Rattle.roster.proofs.Imports.{get_or_default, length-take, All-map, All-head, All-tail, IsUtf8-from_ascii, Post}
use Rattle.roster.proofs.Imports.{Raw, IsNameByte, IsName, AreNamed, AreDistinct, is_supervisor, post_of}

-- the characters of a name are ASCII
ascii : (bytes : List ℕ) → All IsNameByte bytes → IsAscii bytes
ascii [] all i = omega arith
ascii (byte ∷ bytes) all zero =
    ⊎_elim (λ letter. omega (arith, letter.1)) (λ digit. omega (arith, digit.1)) (All-head IsNameByte byte bytes all)
ascii (byte ∷ bytes) all (suc i) = ascii bytes (All-tail IsNameByte byte bytes all) i

-- a name is text
pub name_is_text : (name : List ℕ) → IsName name → IsUtf8 name
name_is_text name is = IsUtf8-from_ascii name (ascii name is.bytes)

-- some machine of a list that has one
some_of : (raws : List Raw) (k : ℕ) → k < length raws → Raw
some_of [] k within = absurd (omega arith)
some_of (raw ∷ raws) k within = raw

-- `AreNamed` and `AreDistinct` of machines as they are read, and that they say the same of the
-- machines
abbrev pub RawsNamed : List Raw → Type 0
RawsNamed raws = All (λ (raw : Raw). IsName raw.name.now) raws

-- no two machines that were read have one name
abbrev pub RawsDistinct : List Raw → Type 0
RawsDistinct raws = AllPairs (λ (raw other : Raw). raw.name.now ≢ other.name.now) raws

-- machines that were read with names are machines with names
pub named_posts : (raws : List Raw) → RawsNamed raws → AreNamed (map post_of raws)
named_posts raws all = All-map (λ (post : Post). IsName post.name) post_of raws all

-- where the machines have names, they were read with names
pub named_raws : (raws : List Raw) → AreNamed (map post_of raws) → RawsNamed raws
named_raws raws all k d within =
    let long : k < length (map post_of raws) = omega (arith, length-map raws post_of) in
    subst (λ (post : Post). IsName post.name) (get_or-map post_of raws k d (post_of d) within)
    (all k (post_of d) long)

-- machines that were read with different names have different names
pub distinct_posts : (raws : List Raw) → RawsDistinct raws → AreDistinct (map post_of raws)
distinct_posts raws all i j d before within same =
    let long : j < length raws = omega (arith, length-map raws post_of) in
    let raw : Raw = some_of raws j long in
    let first : get_or (map post_of raws) i d ≡ post_of (get_or raws i raw) =
    get_or-map post_of raws i raw d (omega arith) in
    let second : get_or (map post_of raws) j d ≡ post_of (get_or raws j raw) = get_or-map post_of raws j raw d long in
    all i j raw before long
    (sym (ap (λ (post : Post). post.name) first) ∙ same ∙ ap (λ (post : Post). post.name) second)

-- where the machines have different names, they were read with different names
pub distinct_raws : (raws : List Raw) → AreDistinct (map post_of raws) → RawsDistinct raws
distinct_raws raws all i j d before within same =
    let long : j < length (map post_of raws) = omega (arith, length-map raws post_of) in
    let first : get_or (map post_of raws) i (post_of d) ≡ post_of (get_or raws i d) =
    get_or-map post_of raws i d (post_of d) (omega arith) in
    let second : get_or (map post_of raws) j (post_of d) ≡ post_of (get_or raws j d) =
    get_or-map post_of raws j d (post_of d) within in
    all i j (post_of d) before long
    (ap (λ (post : Post). post.name) first ∙ same ∙ sym (ap (λ (post : Post). post.name) second))

-- as many supervisors
sums : (raws : List Raw) (n : ℕ) →
    fold (λ n (post : Post). n + (if is_supervisor post.role then 1 else 0)) n (map post_of raws)
    ≡ fold (λ n (raw : Raw). n + (if is_supervisor raw.role then 1 else 0)) n raws
sums [] n = refl
sums (raw ∷ raws) n = sums raws (n + (if is_supervisor raw.role then 1 else 0))

-- as many supervisors are among the machines as were read
pub supervisors : (raws : List Raw) →
    count_by (λ (post : Post). is_supervisor post.role) (map post_of raws)
    ≡ count_by (λ (raw : Raw). is_supervisor raw.role) raws
supervisors raws = sums raws 0

-- an earlier machine has the name of the one at `i`
pub same_name_found : (raws : List Raw) (i : ℕ) (e : Raw) → i < length raws →
    Any (λ (raw : Raw). raw.name.now ≡ (get_or raws i e).name.now) (take i raws) → ¬ (RawsDistinct raws)
same_name_found raws i e within (x, earlier, among, is, same) all =
    let before : x < i = omega (arith, length-take i raws) in
    let first : get_or raws x earlier ≡ earlier = sym (get_or-take i raws x earlier before) ∙ is in
    let second : get_or raws i e ≡ get_or raws i earlier = get_or_default raws i e earlier within in
    all x i earlier before within
    (ap (λ (raw : Raw). raw.name.now) first ∙ same ∙ ap (λ (raw : Raw). raw.name.now) second)

-- no earlier machine has it
pub no_name_found : (raws : List Raw) (i : ℕ) (e : Raw) → i < length raws →
    ¬ (Any (λ (raw : Raw). raw.name.now ≡ (get_or raws i e).name.now) (take i raws))
    → (a : ℕ) (d : Raw) → a < i → (get_or raws a d).name.now ≢ (get_or raws i d).name.now
no_name_found raws i e within none a d before same =
    let front : get_or (take i raws) a (get_or raws a d) ≡ get_or raws a d =
    get_or-take i raws a (get_or raws a d) before ∙ get_or_default raws a (get_or raws a d) d (omega arith) in
    let at : get_or raws i d ≡ get_or raws i e = get_or_default raws i d e within in
    none (a, get_or raws a d, omega (arith, length-take i raws), front, same ∙ ap (λ (raw : Raw). raw.name.now) at)

-- one machine more, of another name
pub one_more_distinct : (raws : List Raw) (i : ℕ)
    → ((a b : ℕ) (d : Raw) → a < b → b < i → (get_or raws a d).name.now ≢ (get_or raws b d).name.now)
    → ((a : ℕ) (d : Raw) → a < i → (get_or raws a d).name.now ≢ (get_or raws i d).name.now)
    → (a b : ℕ) (d : Raw) → a < b → b < i + 1 → (get_or raws a d).name.now ≢ (get_or raws b d).name.now
one_more_distinct raws i all last a b d before within =
    ⊎_elim (λ (lt : b < i). all a b d before lt)
    (λ (is : b ≡ i). subst (λ k. (get_or raws a d).name.now ≢ (get_or raws k d).name.now) (sym is)
    (last a d (omega arith)))
    (below_or_last b i within)
  where
    -- a place below the end of one more is below the old end, or is that
    below_or_last : (b i : ℕ) → b < i + 1 → (b < i) ⊎ (b ≡ i)
    below_or_last b i within = grind arith
