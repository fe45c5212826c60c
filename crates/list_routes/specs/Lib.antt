pub mod RoutingStep
