-- Why nothing was worked out of what was looked up, as a fault of the store.
use Rattle.ci_machine_statuses.specs.declared.fault.StatusFault.{StatusFault}
use Rattle.ci_store.specs.declared.fault.StoreFault.{StoreFault}

-- records that don't fit together are a fault of the store
abbrev pub as_store_fault : StatusFault → StoreFault
as_store_fault StatusFault.Memory = StoreFault.Memory
as_store_fault StatusFault.Broken = StoreFault.Broken
