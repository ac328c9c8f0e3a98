mod Printed
mod Feeding
