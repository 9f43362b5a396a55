use Rattle.log_commands.proofs.Imports.{[], bytes_eq, distinct, false, false≢true, length, list_any, map}
use Rattle.log_commands.proofs.Imports.{node_of_sealed, refl, rules, subst, sym, take, true, ◌++◌, ◌+◌, ◌∷◌, ◌≡◌}
use Rattle.log_commands.proofs.WatchSteps.{counted, few_of, not_counted, too_many_of}
use Rattle.log_commands.proofs.watch.are_few_distinct.Goals.{else-not-some_has}
use Rattle.log_commands.proofs.watch.are_few_distinct.Goals.{then-not-some_has+else-len-eq-MOST_WATCHED+in_ok-push}
use Rattle.log_commands.proofs.watch.are_few_distinct.Goals as goal

-- one more of 1,024 is too many
pub returns-then-len-eq-MOST_WATCHED : goal.returns-then-len-eq-MOST_WATCHED
returns-then-len-eq-MOST_WATCHED c =
    let entries = c.args.entries.now in
    let different = c.loop-k.different.items in
    let d = c.digest.result.now in
    let none : list_any (λ x. bytes_eq x.now.digest d) different ≡ false = search rules in
    let full : length different ≡ 1024 = search rules in (
      (λ yes. absurd (false≢true yes)),
      (λ few. absurd (too_many_of (λ r. r.now) entries c.loop-k.k c.index-entries-k.result c.loop-k-test.true
          c.index-entries-k.is different c.loop-k.invariant.are d c.digest.ensures.value none full few)),
    )

pub loop-k-preserved : goal.loop-k-preserved
loop-k-preserved c =
    let entries = c.args.entries.now in
    let different = c.loop-k.different.items in
    let d = c.digest.result.now in
    elim c.if-not-some_has.branch [
      | then-not-some_has+else-len-eq-MOST_WATCHED+in_ok-push w ↦
          (let none : list_any (λ x. bytes_eq x.now.digest d) different ≡ false = search rules in
          let more : c.if-not-some_has.different.items ≡ different ++ c.index-entries-k.result ∷ [] = search rules in
          record {
            are = subst (λ rs. map (λ r. r.now) rs
                ≡ distinct node_of_sealed (take (c.loop-k.k + 1) (map (λ r. r.now) entries))) (sym more)
                (counted (λ r. r.now) entries c.loop-k.k c.index-entries-k.result c.loop-k-test.true c.index-entries-k.is
                different c.loop-k.invariant.are d c.digest.ensures.value none);
            few = search rules;
          })
      | else-not-some_has w ↦
          (let has : list_any (λ x. bytes_eq x.now.digest d) different ≡ true = search rules in
          let same : c.if-not-some_has.different.items ≡ different = search rules in
          record {
            are = subst (λ rs. map (λ r. r.now) rs
                ≡ distinct node_of_sealed (take (c.loop-k.k + 1) (map (λ r. r.now) entries))) (sym same)
                (not_counted (λ r. r.now) entries c.loop-k.k c.index-entries-k.result c.loop-k-test.true
                c.index-entries-k.is different c.loop-k.invariant.are d c.digest.ensures.value has);
            few = search rules;
          })
    ]

pub returns : goal.returns
returns c = (
  (λ yes. few_of (λ r. r.now) c.args.entries.now c.loop-k.different.items c.loop-k.k c.loop-k-test.false
      c.loop-k.invariant.are c.loop-k.invariant.few),
  (λ few. refl),
)
