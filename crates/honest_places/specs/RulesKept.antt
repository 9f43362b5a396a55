-- Honest polling places are never accused: what the standard rules say of entries that they sent.
use Rattle.std.specs.Prelude.{◌≡◌, ◌≢◌, ℕ, ◌≤◌, Bool, false, List, map, length}
use Rattle.std.specs.List.{Contains}
use Rattle.election_script.specs.Lawful.{max_actions}
use Rattle.entry_format.specs.Nodes.{node_of_sealed}
use Rattle.entry_format.specs.SealedEntry.{SealedEntry}
use Rattle.entry_order.specs.declared.three.Three.TheVariants.{False, True}
use Rattle.entry_order.specs.Naming.{Distinct}
use Rattle.entry_order.specs.Settled.{IsGraphOf}
use Rattle.entry_order.specs.World.{World, sent_in}
use Rattle.roster.specs.declared.post.Post.{Post}
use Rattle.rule_language.specs.Trees.{RuleTree}
use Rattle.rule_language.specs.Standard.{standard_rules}
use Rattle.rule_meaning.specs.Meaning.{Holds}
use Rattle.rule_meaning.specs.Sound.{HasNoDouble}
use Rattle.rule_meaning.specs.Values.{three_in}
use Rattle.rule_meaning.specs.Widths.{is_too_wide}
use Rattle.rule_exactness.specs.Exact.{NoEarlyEnd}
use Rattle.survivor_rows.specs.Rows.{row_of}
use Rattle.honest_places.specs.Honest.{IsHonest}

-- each of the entries was sent in w
abbrev pub WereSentIn : World SealedEntry → List SealedEntry → Type 0
WereSentIn w S = (e : SealedEntry) → Contains S e → Contains (sent_in w) e

-- each entry that was sent in w is one of them
abbrev pub AreAllOf : World SealedEntry → List SealedEntry → Type 0
AreAllOf w S = (e : SealedEntry) → Contains (sent_in w) e → Contains S e

-- each standard rule holds of the entries S, in what was sent in w
abbrev pub StandardRulesHold : List Post → World SealedEntry → List SealedEntry → Type 0
StandardRulesHold posts w S =
    (rule : RuleTree) → Contains standard_rules rule → Holds node_of_sealed (row_of posts) S (sent_in w) rule.body

-- by any graph of the entries S, which are given once each, no standard rule is known to be broken
abbrev pub NoneIsBroken : List Post → List SealedEntry → Type 0
NoneIsBroken posts S =
    HasNoDouble S → (parents : ℕ → List ℕ) (ragged : ℕ → Bool) → IsGraphOf node_of_sealed S parents ragged →
    (rule : RuleTree) → Contains standard_rules rule → three_in (map (row_of posts) S) parents ragged rule.body ≢ False

-- by any graph of the entries S, which are given once each, each standard rule is known to be kept
abbrev pub EachIsKept : List Post → List SealedEntry → Type 0
EachIsKept posts S =
    HasNoDouble S → (parents : ℕ → List ℕ) (ragged : ℕ → Bool) → IsGraphOf node_of_sealed S parents ragged →
    (rule : RuleTree) → Contains standard_rules rule → three_in (map (row_of posts) S) parents ragged rule.body ≡ True

-- over the entries S, which are given once each, no standard rule is too wide
abbrev pub NoneIsTooWide : List Post → List SealedEntry → Type 0
NoneIsTooWide posts S =
    HasNoDouble S → (rule : RuleTree) → Contains standard_rules rule →
    is_too_wide (map (row_of posts) S) rule.body 1 ≡ false

-- of any entries that an honest polling place sent, where different entries have different digests,
-- each standard rule holds
abbrev pub HonestEntriesKeepTheRules : Type 0
HonestEntriesKeepTheRules =
    (posts : List Post) (w : World SealedEntry) → IsHonest posts w → Distinct node_of_sealed (sent_in w) →
    (S : List SealedEntry) → WereSentIn w S → StandardRulesHold posts w S

-- no standard rule is known to be broken at an honest place, whichever of its entries are given
abbrev pub HonestAuditsNeverSayBroken : Type 0
HonestAuditsNeverSayBroken =
    (posts : List Post) (w : World SealedEntry) → IsHonest posts w → Distinct node_of_sealed (sent_in w) →
    (S : List SealedEntry) → WereSentIn w S → NoneIsBroken posts S

-- each standard rule is known to be kept at an honest place where all its entries are given
abbrev pub HonestAuditsSayKept : Type 0
HonestAuditsSayKept =
    (posts : List Post) (w : World SealedEntry) → IsHonest posts w → Distinct node_of_sealed (sent_in w) →
    (S : List SealedEntry) → WereSentIn w S → AreAllOf w S → EachIsKept posts S

-- of any entries that an honest polling place sent, where different entries have different digests,
-- none that ends a session precedes an authorising of it
abbrev pub HonestEntriesHaveNoEarlyEnd : Type 0
HonestEntriesHaveNoEarlyEnd =
    (posts : List Post) (w : World SealedEntry) → IsHonest posts w → Distinct node_of_sealed (sent_in w) →
    (S : List SealedEntry) → WereSentIn w S → NoEarlyEnd node_of_sealed (row_of posts) S

-- where an honest polling place sent at most 4,096 entries, as many as a script has actions, and
-- different ones have different digests, no standard rule is too wide over any of them
abbrev pub StandardRulesAreNarrow : Type 0
StandardRulesAreNarrow =
    (posts : List Post) (w : World SealedEntry) → IsHonest posts w → Distinct node_of_sealed (sent_in w) →
    length (sent_in w) ≤ max_actions → (S : List SealedEntry) → WereSentIn w S → NoneIsTooWide posts S
