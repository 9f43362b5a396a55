-- What reading a text of rules answers.
use Rattle.std.specs.Prelude.{◌≡◌, ℕ, List, map, Result, Ok, Err}
use Rattle.std.specs.declared.vec.Vec.{Vec}
use Rattle.std.specs.declared.alloc.Global.{Global}
use Rattle.rule_language.specs.declared.formula.Rule.{Rule}
use Rattle.input_causes.specs.declared.rules.RuleWhy.{RuleWhy}
use Rattle.rule_language.specs.declared.faults.RuleFault.{RuleFault}
use Rattle.rule_language.specs.declared.faults.RuleFault.TheVariants.{At}
use Rattle.rule_language.specs.Trees.{RuleTree}
use Rattle.rule_language.specs.Forms.{rule_tree}
use Rattle.rule_language.specs.Reader.{rules_of}

-- this is what the text is read as: rules, or its first fault
abbrev pub Reads : List ℕ → Result (List RuleTree) RuleFault → Type 0
Reads text answer = rules_of text ≡ answer

-- the first fault of a text: everything before its place is allowed
abbrev pub IsFirstFault : List ℕ → ℕ → RuleWhy → Type 0
IsFirstFault text at why = Reads text (Err (At at why))

-- an answer, with the rules' trees
abbrev pub answered : Result (Vec Rule Global) RuleFault → Result (List RuleTree) RuleFault
answered (Ok rules) = Ok (map rule_tree rules.items)
answered (Err fault) = Err fault
