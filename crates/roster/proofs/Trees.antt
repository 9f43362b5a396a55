-- The trees of machines, one by one.
use Rattle.roster.proofs.Imports.{◌≡◌, ℕ, List, [], ◌∷◌, map, refl, ap, sym, ◌∙◌, Sexp, Post, Role, Supervisor, Booth}
use Rattle.roster.proofs.Imports.{role_word, post_tree, headed, Atom, members_of, forest_of, members_of-forest_of}
use Rattle.roster.proofs.Imports.{codes}

-- a list has one row of members
pub same_after : (trees others : List Sexp) → headed trees ≡ headed others → trees ≡ others
same_after trees others same =
    let all : List Sexp → List Sexp = λ ts. Atom (codes "roster") ∷ Atom (codes "1") ∷ ts in
    let forest : forest_of (all trees) ≡ forest_of (all others) = cc in
    let rows : all trees ≡ all others =
    sym (members_of-forest_of (all trees)) ∙ ap members_of forest ∙ members_of-forest_of (all others) in
    cc

-- a role has one word
pub one_role : (role other : Role) → role_word role ≡ role_word other → role ≡ other
one_role Supervisor Supervisor same = refl
one_role Supervisor Booth same = cc
one_role Booth Supervisor same = cc
one_role Booth Booth same = refl

-- a tree is that of one machine
one_post : (post other : Post) → post_tree post ≡ post_tree other → post ≡ other
one_post post other same =
    let name : post.name ≡ other.name = cc in
    let word : role_word post.role ≡ role_word other.role = cc in
    let role : post.role ≡ other.role = one_role post.role other.role word in
    let key : post.key ≡ other.key = cc in
    ap (λ (n : List ℕ). record { name = n; role = post.role; key = post.key }) name
    ∙ ap (λ (r : Role). record { name = other.name; role = r; key = post.key }) role
    ∙ ap (λ (k : List ℕ). record { name = other.name; role = other.role; key = k }) key

-- a row of machines' trees is that of one list of machines
pub one_list : (posts others : List Post) → map post_tree posts ≡ map post_tree others → posts ≡ others
one_list [] [] same = refl
one_list [] (other ∷ others) same = cc
one_list (post ∷ posts) [] same = cc
one_list (post ∷ posts) (other ∷ others) same =
    let tree : post_tree post ≡ post_tree other = cc in
    let first : post ≡ other = one_post post other tree in
    let row : map post_tree posts ≡ map post_tree others = cc in
    let rest : posts ≡ others = one_list posts others row in
    cc
