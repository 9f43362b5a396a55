-- A text has one entry.
use Rattle.entry_format.specs.declared.deed.How.TheVariants as how
use Rattle.canonical_sexp.proofs.{Decimal.number_from, Decimal.number_from-decimal, Rows.members_of-forest_of}
use Rattle.entry_format.proofs.Imports.{[], arith, Atom, body_tree, Cast, Challenge, codes, Commit, decimal, Deed}
use Rattle.entry_format.proofs.Imports.{deed_tree, Entry, How, how_word, IsDeed, IsEntry, IsSignedText, List, list_of}
use Rattle.entry_format.proofs.Imports.{map, one_text, Opened, Override, refl, Sexp, signed_list, signed_tree, sym, ℕ}
use Rattle.entry_format.proofs.{Imports.◌<◌, Imports.◌^◌, Imports.◌∙◌, Imports.◌∷◌, Imports.◌≡◌, Taken.version_small}
use Rattle.entry_format.specs.EntryText.{deed_word, IsDeedIn}
use Rattle.entry_format.specs.declared.deed.Deed.TheVariants.{Activate, Authorise, Cancel, Closed}
use Rattle.std.proofs.{Common.false, Common.true≢false, lemmas.Slice.Eq.bytes_eq-Decides}
use Rattle.std.specs.Str.{bytes_eq}

-- one list of names has one tree
one_names : (digests others : List (List ℕ)) → list_of (map Atom digests) ≡ list_of (map Atom others) → digests ≡ others
one_names [] [] e = refl
one_names (d ∷ digests) (o ∷ others) e = let rest : digests ≡ others = one_names digests others (cc) in cc
one_names digests others e = cc

-- a number comes back from its digits
number_back : (n : ℕ) → n < 2 ^ 32 → number_from 0 (decimal n) ≡ n
number_back n small = number_from-decimal n (omega arith)

-- a number has one text
one_number : (m n : ℕ) → m < 2 ^ 32 → n < 2 ^ 32 → decimal m ≡ decimal n → m ≡ n
one_number m n small other_small e = cc (number_back m small, number_back n other_small)

-- words that don't pass as equal aren't
clash : (word other : List ℕ) → bytes_eq word other ≡ false → word ≡ other → ⊥
clash word other differ e = true≢false (sym ((bytes_eq-Decides word other).1 e) ∙ differ)

-- deeds with one tree have one word
one_word : (v : ℕ) (deed other : Deed) → deed_tree v deed ≡ deed_tree v other → deed_word deed ≡ deed_word other
one_word v deed other e = cc

-- overrides with one tree, in the version that says how, say it by one word
one_how : (s t : ℕ) (part other : How) → deed_tree 2 (Override s part) ≡ deed_tree 2 (Override t other) →
    how_word part ≡ how_word other
one_how s t part other e = cc

-- a deed has one tree in a version
one_deed : (v : ℕ) (deed other : Deed) → IsDeed deed → IsDeedIn v deed → IsDeed other → IsDeedIn v other →
    deed_tree v deed ≡ deed_tree v other → deed ≡ other
one_deed v Opened Opened h has k likewise e = refl
one_deed v (Authorise b s) (Authorise c t) (h, i) has (k, j) likewise e =
    cc (number_back b h, number_back s i, number_back c k, number_back t j)
one_deed v (Override s how.Cancel) (Override t how.Cancel) h has k likewise e = cc (number_back s h, number_back t k)
one_deed v (Override s how.Cast) (Override t how.Cast) h has k likewise e = cc (number_back s h, number_back t k)
one_deed v (Override s how.Cancel) (Override t how.Cast) h has k likewise e =
    absurd (clash (codes "cancel") (codes "cast") refl (one_how s t how.Cancel how.Cast (rw likewise at e)))
one_deed v (Override s how.Cast) (Override t how.Cancel) h has k likewise e =
    absurd (clash (codes "cast") (codes "cancel") refl (one_how s t how.Cast how.Cancel (rw has at e)))
one_deed v Closed Closed h has k likewise e = refl
one_deed v (Activate s) (Activate t) h has k likewise e = cc (number_back s h, number_back t k)
one_deed v (Commit s a) (Commit t b) (h, _) has (k, _) likewise e = cc (number_back s h, number_back t k)
one_deed v (Cast s a) (Cast t b) (h, _) has (k, _) likewise e = cc (number_back s h, number_back t k)
one_deed v (Cancel s) (Cancel t) h has k likewise e = cc (number_back s h, number_back t k)
one_deed v (Challenge s a) (Challenge t b) (h, _) has (k, _) likewise e = cc (number_back s h, number_back t k)
one_deed v deed other h has k likewise e =
    absurd (clash (deed_word deed) (deed_word other) refl (one_word v deed other e))

-- entries with the same fields are the same
pub same_fields : (a b : Entry) → a.version ≡ b.version → a.election ≡ b.election → a.maker ≡ b.maker →
    a.number ≡ b.number → a.stamp ≡ b.stamp → a.names ≡ b.names → a.deed ≡ b.deed → a ≡ b
same_fields a b v e m n s names d =
    λ i. record {
      version = v i;
      election = e i;
      maker = m i;
      number = n i;
      stamp = s i;
      names = names i;
      deed = d i;
    }

-- an entry has one body
one_body : (entry other : Entry) → IsEntry entry → IsEntry other → body_tree entry ≡ body_tree other → entry ≡ other
one_body entry other h k e =
    let version : entry.version ≡ other.version =
    one_number entry.version other.version (version_small entry.version h.version)
    (version_small other.version k.version) (cc) in
    same_fields entry other version (cc) (one_number entry.maker other.maker h.maker k.maker (cc))
    (one_number entry.number other.number h.number k.number (cc))
    (one_number entry.stamp other.stamp h.stamp k.stamp (cc)) (one_names entry.names other.names (cc))
    (one_deed entry.version entry.deed other.deed h.deed h.of_version k.deed (rw version k.of_version) (cc))

-- a signed entry has one body and one signature
pub one_signed : (body other : Sexp) (signature another : List ℕ) →
    signed_list body signature ≡ signed_list other another → (body ≡ other) × (signature ≡ another)
one_signed body other signature another e =
    let members : Sexp → List ℕ → List Sexp = λ tree octets. Atom (codes "sealed") ∷ tree ∷ Atom octets ∷ [] in
    let same : members body signature ≡ members other another =
    cc (members_of-forest_of (members body signature), members_of-forest_of (members other another)) in
    (cc, cc)

-- a text has one entry and one signature
pub one_entry : (text : List ℕ) (entry other : Entry) (signature another : List ℕ) →
    IsSignedText text entry signature → IsSignedText text other another →
    (entry ≡ other) × (signature ≡ another)
one_entry text entry other signature another h k =
    let tree : signed_tree entry signature ≡ signed_tree other another =
    one_text text (signed_tree entry signature) (signed_tree other another) h.within k.within h.spelt k.spelt in
    let (bodies, signatures) = one_signed (body_tree entry) (body_tree other) signature another tree in
    (one_body entry other h.lawful k.lawful bodies, signatures)
