-- A roster's text is within the limits of canonical texts.
use Rattle.roster.proofs.Imports.{◌≡◌, ◌≤◌, List, [], ◌∷◌, length, map, All, refl, arith, All-head, All-tail}
use Rattle.roster.proofs.Imports.{count_of, forest_of, AreWithin, Fits, max_octets, Post, Role, Supervisor, Booth}
use Rattle.roster.proofs.Imports.{role_word, post_tree, roster_tree, HasKey, IsName, HaveText, max_machines, max_name}

-- the word of a role is short enough for an atom
word_is_short : (role : Role) → length (role_word role) ≤ max_octets
word_is_short Supervisor = omega arith
word_is_short Booth = omega arith

-- the trees of machines with names and keys
posts_within : (machines : List Post) → All (λ (post : Post). IsName post.name) machines → All HasKey machines →
    AreWithin 7 (forest_of (map post_tree machines))
posts_within [] named keyed = tt
posts_within (post ∷ machines) named keyed =
    let name : length post.name ≤ max_name =
    (All-head (λ (post : Post). IsName post.name) post machines named).at_most in
    let key : length post.key ≡ 56 = All-head HasKey post machines keyed in
    let rest = posts_within machines (All-tail (λ (post : Post). IsName post.name) post machines named)
    (All-tail HasKey post machines keyed) in
    (omega arith, omega arith, (omega arith, (word_is_short post.role, (omega arith, tt))), rest)

-- there is a tree for each machine
posts_counted : (machines : List Post) → count_of (forest_of (map post_tree machines)) ≡ length machines
posts_counted [] = refl
posts_counted (post ∷ machines) = let rest = posts_counted machines in omega (arith, rest)

-- the tree of a roster is within the limits
pub roster_fits : (machines : List Post) → HaveText machines → Fits (roster_tree machines)
roster_fits machines have =
    let few : length machines ≤ max_machines = have.roster.few in (
      omega arith,
      omega (arith, posts_counted machines),
      (omega arith, (omega arith, posts_within machines have.roster.named have.keys)),
    )
