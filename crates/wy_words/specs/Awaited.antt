-- What the next word has to be: an operand or an option, the name of the input's file or of the trace, or a number of steps.
pub data Awaited : Type 0 where
  Word : Awaited
  Input : Awaited
  Trace : Awaited
  Steps : Awaited
