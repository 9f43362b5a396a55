-- What is written piece by piece is well-formed.
use Rattle.page_markup.specs.declared.names.Tag.TheVariants as tag
use Rattle.page_markup.specs.declared.names.VoidTag.TheVariants as void
use Rattle.page_markup.specs.declared.names.AttributeName.TheVariants as name
use Rattle.page_markup.specs.Elements.{attribute, element, end_tag, html_document, start_tag, svg_document}
use Rattle.page_markup.specs.{Elements.void_element, Escaping.escaped, Escaping.is_plain, Escaping.reference_of}
use Rattle.page_markup.specs.Names.{attribute_name, tag_name, void_name}
use Rattle.page_markup.specs.WellFormed.{a_drawing, a_page, ampersand, apostrophe, AreAttributes, character, characters}
use Rattle.page_markup.specs.WellFormed.{double_quote, greater_than, is_markup_name, IsCharacterData, IsContent}
use Rattle.page_markup.specs.WellFormed.{IsDocument, less_than, no_characters, no_content, one_more, one_tag, reference}
use Rattle.page_markup.specs.{WellFormed.two_tags, declared.names.AttributeName.AttributeName, declared.names.Tag.Tag}
use Rattle.page_markup.specs.declared.names.VoidTag.{VoidTag}
use Rattle.std.proofs.Common.{[], ap, append-nil, append_assoc, Bool, codes, false, List, refl, subst, sym, true, ℕ}
use Rattle.std.proofs.Common.{◌++◌, ◌∷◌, ◌≡◌}
use Rattle.std.proofs.Math.Logic.{∥∥₁_elim, ∥∥₁_map, ∥∥₁_prop}
use Rattle.std.specs.List.{list_all}
use Rattle.std.specs.Prelude.{Err, if◌then◌else◌, IsTrue, Ok, OnErr, OnOk, Result, ◌&&◌}

-- what stands for a byte that isn't plain, and then character data
one_of : (a b c d e : Bool) (rest : List ℕ) → IsCharacterData rest → IsCharacterData (
    (if a then codes "&amp;" else if b then codes "&lt;" else if c then codes "&gt;" else if d then codes "&quot;"
    else if e then codes "&#39;" else codes "?") ++ rest)
one_of true b c d e rest text = reference (codes "&amp;") rest ampersand text
one_of false true c d e rest text = reference (codes "&lt;") rest less_than text
one_of false false true d e rest text = reference (codes "&gt;") rest greater_than text
one_of false false false true e rest text = reference (codes "&quot;") rest double_quote text
one_of false false false false true rest text = reference (codes "&#39;") rest apostrophe text
one_of false false false false false rest text = character 63 rest refl text

-- a byte by this test, and then character data
by_test : (test : Bool) (byte : ℕ) (rest : List ℕ) → (IsTrue test → IsTrue (is_plain byte)) → IsCharacterData rest →
    IsCharacterData ((if test then byte ∷ [] else reference_of byte) ++ rest)
by_test true byte rest plain text = character byte rest (plain refl) text
by_test false byte rest plain text = one_of _ _ _ _ _ rest text

-- escaped text is character data
pub escaped_text : (text : List ℕ) → IsCharacterData (escaped text)
unfolding escaped
escaped_text [] = no_characters
escaped_text (byte ∷ rest) = by_test (is_plain byte) byte (escaped rest) (λ plain. plain) (escaped_text rest)

-- text without a character that has a meaning in markup, and without one that isn't printing, is
-- written as it is
by_plain : (test : Bool) (byte : ℕ) (rest written : List ℕ) → (test && list_all is_plain rest) ≡ true →
    (list_all is_plain rest ≡ true → written ≡ rest) →
    (if test then byte ∷ [] else reference_of byte) ++ written ≡ byte ∷ rest
by_plain true byte rest written all same = ap (λ (l : List ℕ). byte ∷ l) (same all)
by_plain false byte rest written all same = cc

pub plain_text : (text : List ℕ) → list_all is_plain text ≡ true → escaped text ≡ text
unfolding escaped
plain_text [] all = refl
plain_text (byte ∷ rest) all = by_plain (is_plain byte) byte rest (escaped rest) all (plain_text rest)

-- the name of each element is a name
pub tag_is_name : (t : Tag) → IsTrue (is_markup_name (tag_name t))
tag_is_name tag.Html = refl
tag_is_name other = refl

pub void_is_name : (t : VoidTag) → IsTrue (is_markup_name (void_name t))
void_is_name void.Meta = refl
void_is_name other = refl

pub attribute_is_name : (n : AttributeName) → IsTrue (is_markup_name (attribute_name n))
attribute_is_name name.Id = refl
attribute_is_name other = refl

-- attributes with one more
pub attribute_added : (before : List ℕ) (n : AttributeName) (value : List ℕ) → ∥ AreAttributes before ∥₁ →
    ∥ AreAttributes (before ++ attribute n value) ∥₁
unfolding attribute
attribute_added before n value are =
    ∥∥₁_map are (λ a. one_more before (attribute_name n) (escaped value) a (attribute_is_name n) (escaped_text value))

-- content with text after it
pub text_added : (before text : List ℕ) → ∥ IsContent before ∥₁ → ∥ IsContent (before ++ escaped text) ∥₁
text_added before text is = ∥∥₁_map is (λ b. characters before (escaped text) b (escaped_text text))

-- content after content
both : (before after : List ℕ) → IsContent before → IsContent after → IsContent (before ++ after)
both before _ first no_content = subst IsContent (sym (append-nil before)) first
both before _ first (characters b text is plain) =
    subst IsContent (append_assoc before b text) (characters (before ++ b) text (both before b first is) plain)
both before _ first (one_tag b name attributes is named are) =
    subst IsContent (append_assoc before b (codes "<" ++ name ++ attributes ++ codes "/>"))
    (one_tag (before ++ b) name attributes (both before b first is) named are)
both before _ first (two_tags b name attributes inner is named are within) =
    subst IsContent (append_assoc before b ((codes "<" ++ name ++ attributes ++ codes ">") ++ inner
    ++ (codes "</" ++ name ++ codes ">")))
    (two_tags (before ++ b) name attributes inner (both before b first is) named are within)

pub content_added : (before after : List ℕ) → ∥ IsContent before ∥₁ → ∥ IsContent after ∥₁ →
    ∥ IsContent (before ++ after) ∥₁
content_added before after first next = ∥∥₁_elim first ∥∥₁_prop (λ f. ∥∥₁_map next (λ n. both before after f n))

-- content with an element after it
pub element_added : (before : List ℕ) (t : Tag) (attributes inner : List ℕ) → ∥ IsContent before ∥₁ →
    ∥ AreAttributes attributes ∥₁ → ∥ IsContent inner ∥₁ → ∥ IsContent (before ++ element t attributes inner) ∥₁
unfolding element start_tag end_tag
element_added before t attributes inner is are within =
    ∥∥₁_elim is ∥∥₁_prop (λ i. ∥∥₁_elim are ∥∥₁_prop (λ a. ∥∥₁_map within (λ w.
    two_tags before (tag_name t) attributes inner i (tag_is_name t) a w)))

pub void_added : (before : List ℕ) (t : VoidTag) (attributes : List ℕ) → ∥ IsContent before ∥₁ →
    ∥ AreAttributes attributes ∥₁ → ∥ IsContent (before ++ void_element t attributes) ∥₁
unfolding void_element
void_added before t attributes is are =
    ∥∥₁_elim is ∥∥₁_prop (λ i. ∥∥₁_map are (λ a. one_tag before (void_name t) attributes i (void_is_name t) a))

-- whole documents
pub is_page : (attributes inner : List ℕ) → ∥ AreAttributes attributes ∥₁ → ∥ IsContent inner ∥₁ →
    ∥ IsDocument (html_document attributes inner) ∥₁
unfolding html_document element start_tag end_tag
is_page attributes inner are within =
    ∥∥₁_elim are ∥∥₁_prop (λ a. ∥∥₁_map within (λ w. a_page (codes "html") attributes inner refl a w))

pub is_drawing : (attributes inner : List ℕ) → ∥ AreAttributes attributes ∥₁ → ∥ IsContent inner ∥₁ →
    ∥ IsDocument (svg_document attributes inner) ∥₁
unfolding svg_document element start_tag end_tag
is_drawing attributes inner are within =
    ∥∥₁_elim are ∥∥₁_prop (λ a. ∥∥₁_map within (λ w. a_drawing (codes "svg") attributes inner refl a w))

-- a fact of a list that grew, or stayed as it was
pub grown : {E : Type 0} (P : List ℕ → Type 0) (result : Result (Unit {0}) E) (old new piece : List ℕ) →
    OnOk result (new ≡ old ++ piece) → OnErr result (new ≡ old) → P old → P (old ++ piece) → P new
grown P (Ok done) old new piece ok err before after = subst P (sym ok) after
grown P (Err why) old new piece ok err before after = subst P (sym err) before
