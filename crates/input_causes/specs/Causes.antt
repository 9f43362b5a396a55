-- The words of causes in lines of output.
use Rattle.std.specs.Prelude.{ℕ, List, ◌++◌, codes}
use Rattle.hex.specs.Hex.{encode_lower}
use Rattle.roster.specs.Reading.{fault_word}
use Rattle.input_causes.specs.declared.script.ScriptWhy.{ScriptWhy}
use Rattle.input_causes.specs.declared.script.ScriptWhy.TheVariants as script
use Rattle.input_causes.specs.declared.rules.RuleWhy.{RuleWhy}
use Rattle.input_causes.specs.declared.rules.RuleWhy.TheVariants as rules
use Rattle.input_causes.specs.declared.proof.ProofWhy.{ProofWhy}
use Rattle.input_causes.specs.declared.proof.ProofWhy.TheVariants as proof
use Rattle.input_causes.specs.declared.cause.Cause.{Cause}
use Rattle.input_causes.specs.declared.cause.Cause.TheVariants as cause

-- the word of a cause against a script's line
abbrev pub script_why_word : ScriptWhy → List ℕ
script_why_word script.NotPlain = codes "NotPlain"
script_why_word script.UnknownWord = codes "UnknownWord"
script_why_word script.OutOfOrder = codes "OutOfOrder"
script_why_word script.WrongCount = codes "WrongCount"
script_why_word script.BadNumber = codes "BadNumber"
script_why_word script.BadHex = codes "BadHex"
script_why_word script.BadName = codes "BadName"
script_why_word script.SameName = codes "SameName"
script_why_word script.UnknownName = codes "UnknownName"
script_why_word script.WrongRole = codes "WrongRole"
script_why_word script.OutOfRange = codes "OutOfRange"
script_why_word script.NotOneSupervisor = codes "NotOneSupervisor"

-- the word of a cause against a token of rules
abbrev pub rule_why_word : RuleWhy → List ℕ
rule_why_word rules.Token = codes "Token"
rule_why_word rules.Shape = codes "Shape"
rule_why_word rules.UnknownKind = codes "UnknownKind"
rule_why_word rules.SameName = codes "SameName"
rule_why_word rules.Unbound = codes "Unbound"
rule_why_word rules.WrongField = codes "WrongField"
rule_why_word rules.TooDeep = codes "TooDeep"

-- the word of a cause against a proof's line
abbrev pub proof_why_word : ProofWhy → List ℕ
proof_why_word proof.Form = codes "Form"
proof_why_word proof.WrongCount = codes "WrongCount"
proof_why_word proof.OutOfRange = codes "OutOfRange"
proof_why_word proof.NotRising = codes "NotRising"
proof_why_word proof.NotFalling = codes "NotFalling"
proof_why_word proof.NotReached = codes "NotReached"
proof_why_word proof.NotParent = codes "NotParent"
proof_why_word proof.NotClosed = codes "NotClosed"

-- the word of a cause
abbrev pub cause_word : Cause → List ℕ
cause_word (cause.Script why) = script_why_word why
cause_word (cause.Roster fault) = fault_word fault
cause_word (cause.Rules why) = rule_why_word why
cause_word (cause.Proof why) = proof_why_word why
cause_word cause.Header = codes "Header"
cause_word cause.TooLong = codes "TooLong"
cause_word cause.TooWide = codes "TooWide"
cause_word cause.TooMany = codes "TooMany"
cause_word (cause.Collision digest) = codes "Collision"
cause_word cause.NoEntry = codes "NoEntry"
cause_word cause.Exists = codes "Exists"
cause_word cause.Office = codes "Office"
cause_word cause.Spent = codes "Spent"

-- a cause as a line of output has it: its word, and then the digest of a collision
abbrev pub cause_text : Cause → List ℕ
cause_text (cause.Collision digest) = codes "Collision " ++ encode_lower digest
cause_text cause = cause_word cause
