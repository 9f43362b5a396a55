-- What `order` prints.
use Rattle.std.specs.Prelude.{ℕ, List, codes}
use Rattle.log_commands.specs.declared.order_word.OrderWord.{OrderWord}
use Rattle.log_commands.specs.declared.order_word.OrderWord.TheVariants.{Same, Before, After, Apart, Unknown}
use Rattle.command_line.specs.Lines.{Answer, refused_answer}

-- a word that means no survivor is refused
abbrev pub no_entry : List ℕ → Answer
no_entry word = refused_answer word 0 (codes "NoEntry")

-- how an order is printed
abbrev pub order_word : OrderWord → List ℕ
order_word Same = codes "same"
order_word Before = codes "before"
order_word After = codes "after"
order_word Apart = codes "apart"
order_word Unknown = codes "unknown"
