mod PlanLemmas
mod ResultLemmas
mod RunLemmas
mod ScenarioLemmas
mod StatusLemmas
