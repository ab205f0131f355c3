-- Which fault an error of SQL is.
use Rattle.sqlite.specs.declared.error.Error.{Error}
use Rattle.sqlite.specs.declared.error.Error.TheVariants.{SqliteFailure}
use Rattle.sqlite.specs.declared.error.ErrorCode.TheVariants.{OutOfMemory}
use Rattle.ci_store.specs.declared.fault.StoreFault.{StoreFault}
use Rattle.ci_store.specs.declared.fault.StoreFault.TheVariants.{Memory, Broken}

abbrev pub fault_of : Error → StoreFault
fault_of (SqliteFailure OutOfMemory) = Memory
fault_of _ = Broken
