pub mod TurnSeats
