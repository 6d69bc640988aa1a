-- What an entry that was read is in the model's words.
use Rattle.std.specs.Prelude.{Option, Some, None}
use Rattle.model.specs.Image as model
use Rattle.image.specs.declared.statement.Statement as code
use Rattle.image.specs.declared.statement.Statement.TheVariants as read
use Rattle.image.specs.declared.expression.Expr as code_expr
use Rattle.image.specs.declared.expression.Expr.TheVariants as expr
use Rattle.image.specs.declared.expression.Binop as code_binop
use Rattle.image.specs.declared.expression.Binop.TheVariants as binop
use Rattle.image.specs.declared.expression.Unop as code_unop
use Rattle.image.specs.declared.expression.Unop.TheVariants as unop

-- the statement of the model that a statement stands for
abbrev pub as_statement : code.Statement → model.Statement
as_statement (read.U theta phi lambda q) = model.U theta phi lambda q
as_statement (read.CX a b) = model.CX a b
as_statement (read.Gate g p a) = model.Gate g p a
as_statement (read.Barrier a n) = model.Barrier a n
as_statement (read.Measure q c) = model.Measure q c
as_statement (read.Reset q) = model.Reset q
as_statement (read.Conditional r v t) = model.Conditional r v t

-- a statement that was read, or one of no known kind
abbrev pub statement_read : Option code.Statement → model.Statement
statement_read (Some s) = as_statement s
statement_read None = model.Statement.Unknown

abbrev pub as_binop : code_binop.Binop → model.Binop
as_binop binop.Add = model.Add
as_binop binop.Sub = model.Sub
as_binop binop.Mul = model.Mul
as_binop binop.Div = model.Div
as_binop binop.Pow = model.Pow

abbrev pub as_unop : code_unop.Unop → model.Unop
as_unop unop.Neg = model.Neg
as_unop unop.Sin = model.Sin
as_unop unop.Cos = model.Cos
as_unop unop.Tan = model.Tan
as_unop unop.Exp = model.Exp
as_unop unop.Ln = model.Ln
as_unop unop.Sqrt = model.Sqrt

-- the expression of the model that an expression stands for
abbrev pub as_expr : code_expr.Expr → model.Expr
as_expr expr.Pi = model.Pi
as_expr (expr.Real b) = model.Real b
as_expr (expr.Int n) = model.Int n
as_expr (expr.Var i) = model.Var i
as_expr (expr.Binary f a b) = model.Binary (as_binop f) a b
as_expr (expr.Unary f a) = model.Unary (as_unop f) a

-- an expression that was read, or one of no known kind
abbrev pub expr_read : Option code_expr.Expr → model.Expr
expr_read (Some x) = as_expr x
expr_read None = model.Expr.Unknown
