-- a script: its tables, its selectors, its own state, and what a call makes of these
pub mod ScriptLemmas
pub mod ScriptCostLemmas
pub mod ScriptNameLemmas
pub mod ScriptOwnLemmas
pub mod ScriptSettleLemmas
-- its calls on its account and its regions
pub mod AccountLemmas
pub mod RegionCallLemmas
pub mod UserRangeLemmas
-- its calls on its heaps
pub mod HeapCallLemmas
pub mod HeapChangeLemmas
pub mod HeapOutcomeLemmas
pub mod HeapPlaceLemmas
pub mod SlicedLemmas
-- its peeks and pokes, and digits
pub mod BytesLemmas
pub mod BytesPlaceLemmas
pub mod HexLemmas
-- what sessions lend it
pub mod LentLemmas
pub mod LentGoneLemmas
pub mod LentPlaceLemmas
pub mod LentPokeLemmas
pub mod LentWriteLemmas
-- components, servers, and the accounts of both
pub mod ComponentLemmas
pub mod QuotaLemmas
pub mod ServerLemmas
-- the core: who has which account, what a call changes, and the world that it leaves
pub mod CoreChangeLemmas
pub mod CoreFreshLemmas
pub mod CoreHeldLemmas
pub mod CorePlainLemmas
pub mod CoreRoleLemmas
pub mod CoreRouterLemmas
pub mod CoreSparesLemmas
pub mod CoreWorldLemmas
-- calls of a reserve
pub mod ReserveAsideLemmas
pub mod ReserveCallLemmas
pub mod ReserveShiftLemmas
-- calls of sessions
pub mod SessionBetweenLemmas
pub mod SessionChangeLemmas
pub mod SessionClosedLemmas
pub mod SessionNamedLemmas
pub mod SessionOpenLemmas
pub mod SessionOwnLemmas
pub mod SessionRefusedLemmas
pub mod SessionRoutedLemmas
pub mod SessionScriptLemmas
pub mod SessionServedLemmas
pub mod SessionStepLemmas
pub mod SessionTurnLemmas
pub mod SessionWorldLemmas
-- exits
pub mod ExitLemmas
pub mod ExitCallLemmas
pub mod ExitEndLemmas
pub mod ExitHomeLemmas
pub mod ExitReleaseLemmas
pub mod ExitWorldLemmas
