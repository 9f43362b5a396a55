-- A roster's members as they are walked: the machines so far, and the members that are left.
use Rattle.roster.proofs.Imports.{◌≡◌, ◌∙◌, Option, Some, None, List, [], ◌∷◌, ◌++◌, length, map, All, refl, ap, sym}
use Rattle.roster.proofs.Imports.{append_assoc, append-nil, IfNone, IsSome, map-append, length-map, All-head}
use Rattle.roster.proofs.Imports.{All-tail, All-push, Sexp, Forest, count_of, members_of, forest_of-members_of}
use Rattle.roster.proofs.Imports.{count_of-forest_of, Post, post_tree, headed, HasKey, IsRosterTree}
use Rattle.roster.proofs.Trees.{same_after}

-- the tree is that of a roster's machines so far and of the members that are left
pub record IsWalked (tree : Sexp) (machines : List Post) (left : List Sexp) : Type 0 where
  -- each machine so far has a key
  pub keys : All HasKey machines
  -- the tree is the word of rosters, these machines and the members that are left
  pub is : tree ≡ headed (map post_tree machines ++ left)

-- one machine more
pub walked_on : (tree member : Sexp) (machines : List Post) (left : List Sexp) (post : Post) →
    IsWalked tree machines (member ∷ left) → HasKey post → member ≡ post_tree post →
    IsWalked tree (machines ++ post ∷ []) left
walked_on tree member machines left post so_far key is =
    record {
      keys = All-push HasKey machines post so_far.keys key;
      is = so_far.is ∙ ap (λ t. headed (map post_tree machines ++ t ∷ left)) is
          ∙ ap headed (sym (append_assoc (map post_tree machines) (post_tree post ∷ []) left)
          ∙ ap (λ ts. ts ++ left) (sym (map-append post_tree machines (post ∷ []))));
    }

-- no member is left
pub walked : (tree : Sexp) (machines : List Post) → IsWalked tree machines [] → IsRosterTree tree machines
walked tree machines all =
    record { keys = all.keys; is = all.is ∙ ap headed (append-nil (map post_tree machines)) }

-- a member after some machines is a machine
machine_after : (machines posts : List Post) (member : Sexp) (left : List Sexp) →
    map post_tree machines ++ member ∷ left ≡ map post_tree posts → All HasKey posts →
    (post : Post) × HasKey post × (member ≡ post_tree post)
machine_after [] [] member left same keys = cc
machine_after [] (post ∷ posts) member left same keys =
    let is : member ≡ post_tree post = cc in (post, All-head HasKey post posts keys, is)
machine_after (machine ∷ machines) [] member left same keys = cc
machine_after (machine ∷ machines) (post ∷ posts) member left same keys =
    let rest : map post_tree machines ++ member ∷ left ≡ map post_tree posts = cc in
    machine_after machines posts member left rest (All-tail HasKey post posts keys)

-- the next member of a roster's tree is a machine
pub next_machine : (tree member : Sexp) (machines posts : List Post) (left : List Sexp) →
    IsWalked tree machines (member ∷ left) → IsRosterTree tree posts →
    (post : Post) × HasKey post × (member ≡ post_tree post)
next_machine tree member machines posts left so_far whole =
    machine_after machines posts member left
    (same_after (map post_tree machines ++ member ∷ left) (map post_tree posts) (sym so_far.is ∙ whole.is)) whole.keys

-- where there can't be none, there is one
pub some_unless : {A : Type 0} (found : Option A) (Q : Type 0) → IfNone found Q → (Q → ⊥) → IsSome found
some_unless None Q none never = absurd (never none)
some_unless (Some value) Q none never = refl

-- the machines of a tree are as many, however they were found
pub same_count : (tree : Sexp) (machines others : List Post) → IsRosterTree tree machines →
    IsRosterTree tree others → length machines ≡ length others
same_count tree machines others is also =
    sym (length-map machines post_tree)
    ∙ ap length (same_after (map post_tree machines) (map post_tree others) (sym is.is ∙ also.is))
    ∙ length-map others post_tree

-- as many members as machines
pub counted : (tree : Sexp) (members : Forest) (machines : List Post) → tree ≡ headed (members_of members) →
    IsRosterTree tree machines → count_of members ≡ length machines
counted tree members machines head whole =
    ap count_of (sym (forest_of-members_of members)) ∙ count_of-forest_of (members_of members)
    ∙ ap length (same_after (members_of members) (map post_tree machines) (sym head ∙ whole.is))
    ∙ length-map machines post_tree
