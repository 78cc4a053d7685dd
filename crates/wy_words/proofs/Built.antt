-- What the table of the command line is built into.
use Rattle.std.proofs.Common.{◌≡◌, true, false, List, refl, map}
use Rattle.clap.specs.Walk.{Rule, Text}
use Rattle.clap.specs.Simple.{App, Shape, new_shape, built, filled_from, is_simple}
use Rattle.clap.specs.Faults.{is_simple_and_free}
use Rattle.wy_words.specs.Table.{given, names, table, top}

-- the arguments of each command, with what they left out
abbrev pub rules : List Rule
rules = filled_from 1 given

abbrev pub reader : Text → Shape
reader name = record (new_shape name) { rules = rules; no_binary_name = true; disable_help_flag = true; disable_help_subcommand = true; is_built = true }

abbrev pub built_table : App
built_table = record { top = record top { is_leaf = false; is_built = true }; subs = map reader names }

pub table_built : built table ≡ built_table
table_built = refl

pub table_is_simple : is_simple table ≡ true
table_is_simple = refl

pub table_simple : is_simple_and_free table ≡ true
table_simple = refl
