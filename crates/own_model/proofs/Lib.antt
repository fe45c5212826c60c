-- maps, lists, sums and bytes: nothing of the machine
pub mod ByteLemmas
pub mod EntryLemmas
pub mod HexLemmas
pub mod HexReadBackLemmas
pub mod ListLemmas
pub mod NatMapLemmas
pub mod NatMapJoinedLemmas
pub mod NatMapMovedLemmas
pub mod NatMapSums
pub mod NewSelector
pub mod SlotLemmas
pub mod Totals
-- accounts
pub mod AccountLemmas
-- regions, and the ranges that they hold
pub mod RegionLemmas
pub mod RegionApartLemmas
pub mod RegionRangeLemmas
-- the heap: blocks, chunks, and what a step makes of them
pub mod HeapBestFitLemmas
pub mod HeapBlockLemmas
pub mod HeapChunkLemmas
pub mod HeapGapLemmas
pub mod HeapNewLemmas
pub mod HeapOwnLemmas
pub mod HeapPayloadLemmas
pub mod HeapRangeLemmas
pub mod HeapSoundLemmas
pub mod HeapStepLemmas
-- sliced blocks, and their payloads
pub mod SlicedNewLemmas
pub mod SlicedPayloadLemmas
-- one call: what it can do to an own state, and what it keeps
pub mod StepLemmas
pub mod StepTableLemmas
pub mod StepBalanceLemmas
pub mod StepBytesLemmas
pub mod StepExitLemmas
pub mod StepLimitLemmas
pub mod StepReserveLemmas
pub mod StepShortageLemmas
pub mod StepSoundLemmas
pub mod StepUseLemmas
-- the log service
pub mod LogLemmas
-- nodes of files and objects: their names, their blocks, and what is charged
pub mod NodeListLemmas
pub mod NodeShapeLemmas
pub mod NodeLemmas
pub mod NodeChargeLemmas
-- the file service: what its requests do to files, and to their account
pub mod FileChargeLemmas
pub mod FileErrorLemmas
pub mod FileListLemmas
pub mod FileReadLemmas
pub mod FileRequestLemmas
pub mod FileServiceLemmas
pub mod FileTextLemmas
-- requests of a session's buffer
pub mod BufferErrorLemmas
pub mod BufferKeptLemmas
pub mod BufferMadeLemmas
-- declared servers: what their requests do to objects, and to their account
pub mod ObjectChargeLemmas
pub mod ObjectErrorLemmas
pub mod ObjectKeptLemmas
pub mod ObjectReadLemmas
pub mod ObjectRequestLemmas
pub mod ObjectServiceLemmas
-- buffers among what selectors name
pub mod LentLemmas
pub mod LentAloneLemmas
pub mod LentKeptLemmas
pub mod LentServedLemmas
-- what is so of each service
pub mod ServiceLemmas
-- sessions, whichever their service is
pub mod SessionLemmas
pub mod SessionAloneLemmas
pub mod SessionArgsLemmas
pub mod SessionChargeLemmas
pub mod SessionDonationLemmas
pub mod SessionRouteLemmas
pub mod SessionServerLemmas
pub mod SessionSoundLemmas
-- start lists, and where their rules lead
pub mod StartLemmas
pub mod StartListedLemmas
-- runs, and what is told of them
pub mod RunLemmas
pub mod RunSaidByLemmas
pub mod RunningLemmas
