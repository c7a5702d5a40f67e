-- What the parser is told of the options, and how its answers are read.
use Rattle.std.specs.Prelude.{Bool, true, false, codes, bytes_eq, [], Option, Some, option_map}
use Rattle.std.specs.Option.{option_map_or}
use Rattle.std.specs.Borrow.{Bor}
use Rattle.clap.specs.Words.{App, Rule, Text, new_rule, with_rule}
use Rattle.clap.specs.Simple.{new_shape}
use Rattle.clap.specs.declared.builder.ArgAction.TheVariants.{SetTrue}
use Rattle.clap.specs.declared.error.kind.ErrorKind.{ErrorKind}
use Rattle.clap.specs.declared.error.kind.ErrorKind.TheVariants.{OutOfMemory}
use Rattle.command_words.specs.Line.{words_asked}
use Rattle.command_words.specs.declared.SimWords.{SimWords}
use Rattle.command_words.specs.declared.WordsFault.{WordsFault}
use Rattle.command_words.specs.declared.WordsFault.TheVariants.{Usage, NoMemory}

-- an option that takes a value, and one that takes none
abbrev pub valued : Text → Rule
valued name = record (new_rule name) { long = Some name }

abbrev pub flagged : Text → Rule
flagged name = record (new_rule name) { long = Some name; action = Some SetTrue }

-- the command, with no word for help or the version
abbrev pub bare : App
bare = record {
  top = record (new_shape (codes "txsim")) { no_binary_name = true; disable_help_flag = true; disable_version_flag = true };
  subs = [];
}

abbrev pub sim_app : App
sim_app = with_rule (with_rule (with_rule (with_rule (with_rule (with_rule bare
    (valued (codes "seed"))) (valued (codes "steps"))) (valued (codes "make"))) (valued (codes "txs")))
    (flagged (codes "trace"))) (flagged (codes "json"))

-- the text of an option, behind its reference
abbrev pub text_told : Option (Bor Text) → Option Text
text_told = option_map (λ text. text.now)

-- a flag's text, which is `false` where the flag does not stand
abbrev pub is_set : Option Text → Bool
is_set text = option_map_or (λ t. bytes_eq t (codes "true")) text false

-- what is asked for by the texts of the options
abbrev pub asked_of : (Text → Option Text) → Option SimWords
asked_of text =
    words_asked (text (codes "seed")) (text (codes "steps")) (text (codes "make")) (text (codes "txs"))
    (is_set (text (codes "trace"))) (is_set (text (codes "json")))

-- what a refusal of the parser is
abbrev pub fault : ErrorKind → WordsFault
fault OutOfMemory = NoMemory
fault _ = Usage
