-- The bytes of records, one right after another.
use Rattle.demonstration.proofs.Imports.{ap, arith, drop, end_of, Event, flat_map, flat_map-append, header_tree, length}
use Rattle.demonstration.proofs.Imports.{length-append, length-drop, List, log_text, record_text, SealedEntry, sym}
use Rattle.demonstration.proofs.Imports.{take, take-append-drop, take_all, text_of, ℕ, ◌+◌, ◌-◌, ◌∙◌, ◌≡◌, ◌≤◌}

-- how many bytes the records of these events have
abbrev pub size : List (Event SealedEntry) → ℕ
size events = length (flat_map record_text events)

module _ (owner : ℕ) (events : List (Event SealedEntry)) (k : ℕ) where
  -- the log is its header, its first k records and the others
  parts : length (log_text owner events) ≡ end_of owner events k + size (drop k events)
  parts =
      let header = text_of (header_tree owner) in
      let all : flat_map record_text events ≡ _ =
      ap (flat_map record_text) (sym (take-append-drop k events))
      ∙ flat_map-append record_text (take k events) (drop k events) in
      omega (
        arith,
        ap length all,
        length-append (flat_map record_text (take k events)) (flat_map record_text (drop k events)),
        length-append header (flat_map record_text (take k events)),
        length-append header (flat_map record_text events),
      )

  -- the records from the k-th event on are within the log
  pub rest_within : size (drop k events) ≤ length (log_text owner events)
  rest_within = omega (arith, parts)

  -- where the other records begin the first k end
  pub end_is : (end : ℕ) → end + size (drop k events) ≡ length (log_text owner events) → end ≡ end_of owner events k
  end_is end is = omega (arith, is, parts)

-- what the lemmas above say, of the events after a place, as a slice has them, and of the log's
-- text
module _ (owner : ℕ) (slice events : List (Event SealedEntry)) (k : ℕ) (text : List ℕ) (same : slice ≡ events)
    (is : text ≡ log_text owner events) where
  -- what the slice has from the place on is all events from there on
  following : take (length slice - k) (drop k slice) ≡ drop k events
  following =
      take_all (length slice - k) (drop k slice) (omega (arith, length-drop k slice))
      ∙ ap (drop k) same

  -- the records of the events from the place on are no longer than the log's text
  pub after_within : size (take (length slice - k) (drop k slice)) ≤ length text
  after_within = omega (arith, ap size following, ap length is, rest_within owner events k)

  -- cut one byte after where these records begin, the text is the log's, cut one byte after its
  -- first k records
  pub cut_is : (end : ℕ) → end + size (take (length slice - k) (drop k slice)) ≡ length text →
      take (end + 1) text ≡ take (end_of owner events k + 1) (log_text owner events)
  cut_is end sums =
      let at : end ≡ end_of owner events k =
      end_is owner events k end (omega (arith, sums, ap size following, ap length is)) in
      ap (λ (n : ℕ). take (n + 1) text) at ∙ ap (take (end_of owner events k + 1)) is
