-- The table of built-in calls: what their arguments are, and whether they have a value.
use Rattle.std.specs.Prelude.{ℕ, Bool, true, false, cond, nat_eq}
use Rattle.c_rules.specs.declared.builtin.Builtin.{Builtin}
use Rattle.c_rules.specs.declared.builtin.Builtin.TheVariants as b
use Rattle.c_rules.specs.declared.builtin.Role.{Role}
use Rattle.c_rules.specs.declared.builtin.Role.TheVariants as role

-- the roles of four arguments, by their numbers; an argument too many is a value
abbrev pub by_number : Role → Role → Role → Role → ℕ → Role
by_number r s t u i = cond (nat_eq i 0) r (cond (nat_eq i 1) s (cond (nat_eq i 2) t (cond (nat_eq i 3) u role.Value)))

abbrev pub values : ℕ → Role
values i = role.Value

abbrev pub mutex_first : ℕ → Role
mutex_first = by_number role.MutexAddress role.Value role.Value role.Value

-- the role of each argument, by its number
abbrev pub role_of : Builtin → ℕ → Role
role_of b.PthreadCreate = by_number role.TargetAddress role.Zero role.Routine role.Value
role_of b.PthreadJoin = by_number role.Value role.Zero role.Value role.Value
role_of b.PthreadExit = values
role_of b.Exit = values
role_of b.Abort = values
role_of b.Lock = mutex_first
role_of b.Unlock = mutex_first
role_of b.Init = by_number role.MutexAddress role.Zero role.Value role.Value
role_of b.Destroy = mutex_first
role_of b.Assert = values
role_of b.Assume = values
role_of b.AssertFail = by_number role.TextOrValue role.TextOrValue role.TextOrValue role.TextOrValue
role_of b.ReachError = values
role_of b.AnyInt = values
role_of b.AnyUint = values
role_of b.AnyBool = values
role_of b.Begin = values
role_of b.Finish = values
role_of b.Synchronize = values

-- how many arguments there are
abbrev pub argument_count : Builtin → ℕ
argument_count b.PthreadCreate = 4
argument_count b.PthreadJoin = 2
argument_count b.PthreadExit = 1
argument_count b.Exit = 1
argument_count b.Abort = 0
argument_count b.Lock = 1
argument_count b.Unlock = 1
argument_count b.Init = 2
argument_count b.Destroy = 1
argument_count b.Assert = 1
argument_count b.Assume = 1
argument_count b.AssertFail = 4
argument_count b.ReachError = 0
argument_count b.AnyInt = 0
argument_count b.AnyUint = 0
argument_count b.AnyBool = 0
argument_count b.Begin = 0
argument_count b.Finish = 0
argument_count b.Synchronize = 0

abbrev pub has_value : Builtin → Bool
has_value b.PthreadCreate = true
has_value b.PthreadJoin = true
has_value b.PthreadExit = false
has_value b.Exit = false
has_value b.Abort = false
has_value b.Lock = true
has_value b.Unlock = true
has_value b.Init = true
has_value b.Destroy = true
has_value b.Assert = false
has_value b.Assume = false
has_value b.AssertFail = false
has_value b.ReachError = false
has_value b.AnyInt = true
has_value b.AnyUint = true
has_value b.AnyBool = true
has_value b.Begin = false
has_value b.Finish = false
has_value b.Synchronize = false
