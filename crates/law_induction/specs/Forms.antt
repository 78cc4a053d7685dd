-- What is shown of the parts of a form, where something is shown of every expression and every statement.
use Rattle.wy_kernel.specs.Form.{Expression, Const, Str, Read, Set, Upd, Un, Bin, Conv, Cast, InstanceOf, Cond, New, NewArray, Call, Cat, Lib, Place, Local, Static, Field, Elem, Part, absent, the, Row, none, more, Statement, Act, Block, Eval, Declare, If, While, Do, For, Labelled, Jump, Return, Throw, Try, Print, Other, nothing, this, Statements, done, first, Catches, uncaught, catch}

abbrev pub OfPart : (Expression → Type 1) → Part → Type 1
OfPart E absent = Unit {1}
OfPart E (the e) = E e

abbrev pub OfRow : (Expression → Type 1) → Row → Type 1
OfRow E none = Unit {1}
OfRow E (more e rest) = E e × OfRow E rest

abbrev pub OfPlace : (Expression → Type 1) → Place → Type 1
OfPlace E (Local i) = Unit {1}
OfPlace E (Static f site) = Unit {1}
OfPlace E (Field object f site) = E object
OfPlace E (Elem array index site) = E array × E index

abbrev pub Parts : (Expression → Type 1) → Expression → Type 1
Parts E (Const v) = Unit {1}
Parts E (Str n) = Unit {1}
Parts E (Read place) = OfPlace E place
Parts E (Set place value site) = OfPlace E place × E value
Parts E (Upd place op value value_ty ty wide gives_old site) = OfPlace E place × OfPart E value
Parts E (Un op operand) = E operand
Parts E (Bin op left right site) = E left × E right
Parts E (Conv to operand) = E operand
Parts E (Cast ty operand site) = E operand
Parts E (InstanceOf ty operand) = E operand
Parts E (Cond form test if_true if_false site) = E test × OfPart E if_true × OfPart E if_false
Parts E (New c constructor args site) = OfRow E args
Parts E (NewArray ty dims elements sites site) = OfRow E dims × OfRow E elements
Parts E (Call form m receiver ty args site) = OfPart E receiver × OfRow E args
Parts E (Cat left right left_ty right_ty site) = E left × E right
Parts E (Lib op args site) = OfRow E args

abbrev pub OfOther : (Statement → Type 1) → Other → Type 1
OfOther S nothing = Unit {1}
OfOther S (this s) = S s

abbrev pub OfStatements : (Statement → Type 1) → Statements → Type 1
OfStatements S done = Unit {1}
OfStatements S (first s rest) = S s × OfStatements S rest

abbrev pub OfCatches : (Statement → Type 1) → Catches → Type 1
OfCatches S uncaught = Unit {1}
OfCatches S (catch c k site block rest) = S block × OfCatches S rest

abbrev pub ActParts : (Expression → Type 1) → (Statement → Type 1) → Act → Type 1
ActParts E S (Block parts) = OfStatements S parts
ActParts E S (Eval value) = E value
ActParts E S (Declare k) = Unit {1}
ActParts E S (If test a b) = E test × S a × OfOther S b
ActParts E S (While test body) = E test × S body
ActParts E S (Do body test) = S body × E test
ActParts E S (For inits test updates body) = OfStatements S inits × OfPart E test × OfStatements S updates × S body
ActParts E S (Labelled body) = S body
ActParts E S (Jump target) = Unit {1}
ActParts E S (Return value) = OfPart E value
ActParts E S (Throw value) = E value
ActParts E S (Try main catches last) = S main × OfCatches S catches × OfOther S last
ActParts E S (Print operand ty ends_line at) = OfPart E operand
