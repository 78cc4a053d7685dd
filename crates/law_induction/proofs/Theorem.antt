-- Every expression, place, list of arguments, statement, call, initialization and run keeps what its steps keep.
use Rattle.std.proofs.Common.{ℕ, List, Option}
use Rattle.wy_kernel.specs.Form.{Expression, Place, Row, Statement}
use Rattle.wy_steps.specs.Sets.{Sets}
use Rattle.wy_kernel.specs.Limits.{depth_limit}
use Rattle.wy_steps.specs.State.{Carried}
use Rattle.wy_meaning.specs.World.{all_of}
use Rattle.wy_meaning.specs.Place.{find}
use Rattle.wy_meaning.specs.Expression.{eval, eval_row, locate}
use Rattle.wy_meaning.specs.Statement.{exec}
use Rattle.wy_meaning.specs.Run.{world, main_run}
use Rattle.law_induction.specs.Law.{Fact, nothing, both, Entails, Region, FrameKind, Outside, In}
use Rattle.law_induction.specs.Uniform.{Uniform}
use Rattle.law_induction.proofs.Rules.{}
use Rattle.law_induction.proofs.Steps.{fits, spot_fits, slot_fact, all_fit, option_fits}
use Rattle.law_induction.proofs.Forms.{keeps_find, keeps_all_of}
use Rattle.law_induction.proofs.Programs.{keeps_eval, keeps_locate, keeps_row, keeps_exec, keeps_main_run, world_keeps}

module _ (A : Sets) (L : Uniform A) where
  pub expressions_keep : (depth : ℕ) (i : FrameKind) (e : Expression) (P : Fact L.moments) → L.keeps (In i) P (eval (world L.program depth) e) L.fit
  unfolding fits
  expressions_keep depth i e P = ((keeps_eval A L (world L.program depth) (world_keeps A L depth) i e).by P).by

  pub statements_keep : (depth : ℕ) (i : FrameKind) (x : Statement) (P : Fact L.moments) → L.keeps (In i) P (exec (world L.program depth) x) (λ t. nothing)
  statements_keep depth i x P = ((keeps_exec A L (world L.program depth) (world_keeps A L depth) i x).by P).by

  pub runs_keep : (P : Fact L.moments) → L.keeps Outside P (main_run (world L.program depth_limit)) L.fit
  unfolding fits
  runs_keep P = (keeps_main_run A L (world L.program depth_limit) (world_keeps A L depth_limit) P).by

  pub places_keep : (depth : ℕ) (i : FrameKind) (x : Place) (P : Fact L.moments) → L.keeps (In i) P (find (world L.program depth) (locate (world L.program depth) x)) (λ s. both (L.place s.slot) (L.fit s.parts))
  unfolding spot_fits slot_fact fits
  places_keep depth i x P = (keeps_find A L (world L.program depth) (world_keeps A L depth) i P _ (keeps_locate A L (world L.program depth) (world_keeps A L depth) i x)).by

  pub arguments_keep : (depth : ℕ) (i : FrameKind) (args : Row) (P : Fact L.moments) → L.keeps (In i) P (all_of (eval_row (world L.program depth) args)) (all_fit A L)
  arguments_keep depth i args P = (keeps_all_of A L i _ P (keeps_row A L (world L.program depth) (world_keeps A L depth) i args)).by

  pub calls_keep : (depth : ℕ) (r : Region) (site m : ℕ) (receiver : Option (Carried A)) (args : List (Carried A)) (P : Fact L.moments) → Entails P (option_fits A L receiver) → Entails P (all_fit A L args) → L.keeps r P ((world L.program depth).call site m receiver args) L.fit
  unfolding fits
  calls_keep depth r site m receiver args P e ea = ((world_keeps A L depth).call r site m receiver args P e ea).by

  pub initializations_keep : (depth : ℕ) (r : Region) (site c : ℕ) (P : Fact L.moments) → L.keeps r P ((world L.program depth).enter site c) (λ t. nothing)
  initializations_keep depth r site c P = ((world_keeps A L depth).enter r site c P).by
